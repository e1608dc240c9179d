use Rattle.std.proofs.Common.{subst}
use Rattle.gl_waiting.specs.Asking.{Climbs}
use Rattle.gl_c.specs.managers.Guarded.{GuardedView, waiting_in}
use Rattle.gl_c.proofs.managers.guarded.Guarded.climb.Goals as goal

pub returns-clause-climbs : goal.returns-clause-climbs
returns-clause-climbs c =
    subst (λ (g : GuardedView). Climbs (waiting_in g) c.args.waiter c.climb.result c.climb.new.self) c.self.view_is
    c.climb.ensures.climbs
