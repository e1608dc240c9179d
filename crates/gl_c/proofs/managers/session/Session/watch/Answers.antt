use Rattle.std.specs.Prelude.{Some, IfOk}
use Rattle.std.proofs.Common.{◌≡◌, subst}
use Rattle.gl_table.specs.Table.{board_of}
use Rattle.gl_catalog.specs.Manager.{state_of}
use Rattle.gl_window.specs.Boards.{Ends}
use Rattle.gl_c.specs.managers.Guarded.{GuardedView}
use Rattle.gl_c.proofs.managers.session.Session.watch.Goals as goal

pub returns-clause-watcher : goal.returns-clause-watcher
returns-clause-watcher c =
    subst (λ (v : GuardedView). IfOk c.watch.result (λ w. (c.watch.new.self.shown ≡ Some w) × Ends w.list (board_of (state_of v.manager)))) c.self.view_is
    c.watch.ensures.watcher
