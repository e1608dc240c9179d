use Rattle.gl_table.proofs.Words.{◌∙◌}
use Rattle.gl_table.proofs.calls.Queries.{board-seen}
use Rattle.gl_table.proofs.table.Table.board.Goals as goal

pub returns : goal.returns
returns c = c.board.ensures ∙ board-seen c.self.inside c.self.invariant c.args.self.now c.self.view_is c.args.epoch
