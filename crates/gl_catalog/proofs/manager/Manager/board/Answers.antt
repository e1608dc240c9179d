use Rattle.std.proofs.Common.{ap, ◌∙◌}
use Rattle.gl_table.specs.Table.{board_of}
use Rattle.gl_catalog.specs.Manager.{ManagerView, state_of}
use Rattle.gl_catalog.proofs.manager.Manager.board.Goals as goal

pub returns : goal.returns
returns c = c.board.ensures ∙ ap (λ (v : ManagerView). board_of (state_of v)) c.self.view_is
