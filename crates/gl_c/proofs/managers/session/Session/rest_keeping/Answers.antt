use Rattle.std.proofs.Common.{rules, subst}
use Rattle.gl_c.specs.managers.Carries.{Performs}
use Rattle.gl_c.specs.managers.Guarded.{GuardedView}
use Rattle.gl_c.specs.locks.Resting.{resting_call}
use Rattle.gl_c.proofs.managers.session.Session.rest_keeping.Goals as goal

pub returns : goal.returns
returns c =
    record {
      answer = c.serve_resting-next.result;
      told = c.serve_resting-next.new.told.items;
      performs = subst (λ (g : GuardedView). Performs g (resting_call c.args.txn c.args.keep c.args.since) c.serve_resting-next.result
          c.serve_resting-next.new.told.items
          c.serve_resting-next.new.self) c.self.view_is c.serve_resting-next.ensures;
      replied = c.of_resting.ensures;
      tells = search rules;
    }
