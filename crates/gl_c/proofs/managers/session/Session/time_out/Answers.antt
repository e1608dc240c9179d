use Rattle.std.proofs.Common.{rules, subst}
use Rattle.gl_c.specs.locks.Waiters.{late_call}
use Rattle.gl_c.specs.managers.Carries.{Performs}
use Rattle.gl_c.specs.managers.Guarded.{GuardedView}
use Rattle.gl_c.proofs.managers.session.Session.time_out.Goals as goal

pub returns : goal.returns
returns c =
    record {
      answer = c.time_out-end.result;
      told = c.time_out-end.new.told.items;
      performs = subst (λ (g : GuardedView). Performs g (late_call c.args.txn) c.time_out-end.result c.time_out-end.new.told.items
          c.time_out-end.new.self) c.self.view_is
          c.time_out-end.ensures;
      replied = c.of_late.ensures;
      tells = search rules;
    }
