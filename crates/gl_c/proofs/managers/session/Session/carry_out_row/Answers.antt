use Rattle.std.proofs.Common.{rules, subst}
use Rattle.gl_c.specs.managers.Carries.{Performs}
use Rattle.gl_c.specs.managers.Guarded.{GuardedView}
use Rattle.gl_c.specs.locks.Rows.{row_call}
use Rattle.gl_c.proofs.managers.session.Session.carry_out_row.Goals as goal

pub returns : goal.returns
returns c =
    record {
      answer = c.serve_row-answer.result;
      told = c.serve_row-answer.new.told.items;
      performs = subst (λ (g : GuardedView). Performs g
          (row_call c.args.call) c.serve_row-answer.result c.serve_row-answer.new.told.items c.serve_row-answer.new.self)
          c.self.view_is c.serve_row-answer.ensures;
      replied = c.of_row_call.ensures;
      tells = search rules;
    }
