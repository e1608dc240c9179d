use Rattle.std.specs.Prelude.{Option}
use Rattle.std.proofs.Common.{ap, subst, ◌∙◌}
use Rattle.gl_catalog.specs.Manager.{state_of}
use Rattle.gl_table.specs.Table.{board_of}
use Rattle.gl_c.specs.Boards.{Shows}
use Rattle.gl_c.specs.managers.Guarded.{GuardedView}
use Rattle.gl_c.specs.managers.Handle.{guarded_in}
use Rattle.gl_c.proofs.managers.handle.Handle.show.Goals as goal

pub returns : goal.returns
returns c =
    subst (λ (s : Option GuardedView). Shows s c.with_status-2.result c.args.board.now c.put.new.self (guarded_in c.of.result)) c.in-Some.ensures.taken
    (c.with_status-2.ensures, c.put.ensures ∙ c.board.ensures ∙ ap (λ (g : GuardedView). board_of (state_of g.manager)) c.deref.ensures, c.of.ensures)
