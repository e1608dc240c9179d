use Rattle.std.proofs.Common.{rules, subst}
use Rattle.gl_c.specs.managers.Carries.{Performs}
use Rattle.gl_c.specs.managers.Guarded.{GuardedView}
use Rattle.gl_c.specs.locks.Savepoints.{back_call}
use Rattle.gl_c.proofs.managers.session.Session.release_since.Goals as goal

pub returns : goal.returns
returns c =
    record {
      answer = c.serve_back-released.result;
      told = c.serve_back-released.new.told.items;
      performs = subst (λ (g : GuardedView). Performs g (back_call c.args.txn c.args.mark) c.serve_back-released.result c.serve_back-released.new.told.items
          c.serve_back-released.new.self) c.self.view_is c.serve_back-released.ensures;
      replied = c.of_back.ensures;
      tells = search rules;
    }
