use Rattle.gl_window.proofs.Words.{◌∙◌, ap, arc_value, Board, sym}
use Rattle.gl_window.proofs.Lists.{last_ends}
use Rattle.gl_window.proofs.history.Line.board.Goals as goal

pub returns-clause-epoch : goal.returns-clause-epoch
returns-clause-epoch c = rw (← c.self.view_is) (ap (λ (b : Board). b.epoch) c.deref.ensures ∙
    sym (last_ends c.self.inside.seen.log (arc_value c.self.inside.board) c.self.invariant.1))
