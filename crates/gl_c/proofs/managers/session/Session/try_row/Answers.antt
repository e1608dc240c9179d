use Rattle.std.proofs.Common.{rules, subst}
use Rattle.gl_c.specs.managers.Carries.{Performs}
use Rattle.gl_c.specs.managers.Guarded.{GuardedView}
use Rattle.gl_c.specs.locks.Tries.{tried_row_call}
use Rattle.gl_c.proofs.managers.session.Session.try_row.Goals as goal

pub returns : goal.returns
returns c =
    record {
      answer = c.try_row-tried.result;
      told = c.try_row-tried.new.told.items;
      performs = subst (λ (g : GuardedView). Performs g (tried_row_call (record {
        txn = c.args.txn;
        row = c.args.row;
        keys = c.args.keys;
        mode = c.args.mode;
      })) c.try_row-tried.result c.try_row-tried.new.told.items
          c.try_row-tried.new.self) c.self.view_is c.try_row-tried.ensures;
      replied = c.of_tried_row.ensures;
      tells = search rules;
    }
