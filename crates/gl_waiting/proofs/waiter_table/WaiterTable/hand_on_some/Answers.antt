use Rattle.std.proofs.Common.{Bool, subst, suc}
use Rattle.gl_waiting.specs.Asking.{BeginsNext}
use Rattle.gl_waiting.proofs.Turns.{any_more, hands_then}
use Rattle.gl_waiting.proofs.waiter_table.WaiterTable.hand_on_some.Goals as goal

pub begins-preserved : goal.begins-preserved
begins-preserved c =
    let was = c.begins.invariant.hands in
    let first = subst (λ (b : Bool). BeginsNext c.begins.self b c.next_begin.new.self) c.begins-test.true c.next_begin.ensures in
    record {
      hands = (
        suc was.0,
        hands_then was.0 c.args.self.now c.begins.self c.next_begin.new.self was.1 first,
        any_more was.0,
      );
    }
