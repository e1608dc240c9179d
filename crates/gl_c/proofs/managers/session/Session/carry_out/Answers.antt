use Rattle.std.proofs.Common.{rules, subst}
use Rattle.gl_c.specs.managers.Carries.{Performs, command_call}
use Rattle.gl_c.specs.managers.Guarded.{GuardedView}
use Rattle.gl_c.proofs.managers.session.Session.carry_out.Goals as goal

pub returns : goal.returns
returns c =
    record {
      answer = c.serve-answer.result;
      told = c.serve-answer.new.told.items;
      performs = subst (λ (g : GuardedView). Performs g
          (command_call c.args.command) c.serve-answer.result c.serve-answer.new.told.items c.serve-answer.new.self)
          c.self.view_is c.serve-answer.ensures;
      replied = c.of_served.ensures;
      tells = search rules;
    }
