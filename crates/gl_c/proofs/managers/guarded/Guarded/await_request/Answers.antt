use Rattle.std.proofs.Common.{subst}
use Rattle.gl_waiting.specs.Asking.{Awaits}
use Rattle.gl_c.specs.managers.Guarded.{GuardedView, waiting_in}
use Rattle.gl_c.proofs.managers.guarded.Guarded.await_request.Goals as goal

pub returns-clause-awaits : goal.returns-clause-awaits
returns-clause-awaits c =
    subst (λ (g : GuardedView). Awaits (waiting_in g) c.args.waiter c.await_request.result c.await_request.new.self) c.self.view_is
    c.await_request.ensures.awaits
