use Rattle.std.proofs.Common.{rules, subst}
use Rattle.gl_c.specs.locks.Resting.{end_call}
use Rattle.gl_c.specs.managers.Carries.{Performs}
use Rattle.gl_c.specs.managers.Guarded.{GuardedView}
use Rattle.gl_c.proofs.managers.session.Session.end_resting.Goals as goal

pub returns : goal.returns
returns c =
    record {
      answer = c.end_resting-ended.result;
      told = c.end_resting-ended.new.told.items;
      performs = subst (λ (g : GuardedView). Performs g (end_call c.args.whom c.args.number) c.end_resting-ended.result c.end_resting-ended.new.told.items
          c.end_resting-ended.new.self) c.self.view_is
          c.end_resting-ended.ensures;
      replied = c.of_ended.ensures;
      tells = search rules;
    }
