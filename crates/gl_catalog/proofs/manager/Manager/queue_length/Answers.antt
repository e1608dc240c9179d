use Rattle.std.specs.Prelude.{◌≡◌, length}
use Rattle.std.proofs.Common.{subst, sym}
use Rattle.gl_catalog.specs.Manager.{ManagerView, state_of}
use Rattle.gl_catalog.specs.Sound.{view_of}
use Rattle.gl_catalog.proofs.Counts.{no_waiters}
use Rattle.gl_catalog.proofs.manager.Manager.queue_length.Goals as goal

pub returns-in-Err : goal.returns-in-Err
returns-in-Err c =
    subst (λ (v : ManagerView). 0 ≡ length ((state_of v).queue c.args.n)) c.self.view_is (sym (no_waiters _ (state_of
    (view_of c.self.inside)) c.args.n _ c.self.invariant.lawful c.in-Err.ensures.refused))
