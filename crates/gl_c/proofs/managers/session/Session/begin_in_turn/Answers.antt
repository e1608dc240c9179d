use Rattle.std.specs.Prelude.{[]}
use Rattle.std.proofs.Common.{subst}
use Rattle.gl_c.specs.locks.Turns.{turn_call}
use Rattle.gl_c.specs.managers.Carries.{Performs}
use Rattle.gl_c.specs.managers.Guarded.{GuardedView}
use Rattle.gl_c.proofs.managers.session.Session.begin_in_turn.Goals as goal

pub returns : goal.returns
returns c =
    record {
      answer = c.begin_in_turn.result;
      told = [];
      performs = subst (λ (g : GuardedView). Performs g (turn_call c.args.begin) c.begin_in_turn.result [] c.begin_in_turn.new.self) c.self.view_is
          c.begin_in_turn.ensures;
      replied = c.of_turn.ensures;
    }
