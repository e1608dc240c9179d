use Rattle.std.proofs.Common.{rules, subst}
use Rattle.gl_c.specs.locks.Waiters.{on_call}
use Rattle.gl_c.specs.managers.Carries.{Performs}
use Rattle.gl_c.specs.managers.Guarded.{GuardedView}
use Rattle.gl_c.proofs.managers.session.Session.go_on.Goals as goal

pub returns : goal.returns
returns c =
    record {
      answer = c.go_on-came.result;
      told = c.go_on-came.new.told.items;
      performs = subst (λ (g : GuardedView). Performs g on_call c.go_on-came.result c.go_on-came.new.told.items c.go_on-came.new.self) c.self.view_is
          c.go_on-came.ensures;
      replied = c.of_gone_on.ensures;
      tells = search rules;
    }
