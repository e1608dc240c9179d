use Rattle.std.proofs.Common.{ap, ◌∙◌}
use Rattle.gl_catalog.specs.Manager.{ManagerView, state_of}
use Rattle.gl_table.specs.Table.{board_of}
use Rattle.gl_c.specs.managers.Guarded.{GuardedView}
use Rattle.gl_c.proofs.managers.session.Session.board.Goals as goal

pub returns : goal.returns
returns c = c.board.ensures ∙ ap (λ (m : ManagerView). board_of (state_of m)) c.manager.ensures ∙
    ap (λ (g : GuardedView). board_of (state_of g.manager)) c.self.view_is
