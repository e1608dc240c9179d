use Rattle.std.proofs.Common.{subst}
use Rattle.gl_waiting.specs.Asking.{InTurn, KeepsLocks}
use Rattle.gl_waiting.specs.Waiting.{WaitingView}
use Rattle.gl_waiting.proofs.Turns.{in_turn}
use Rattle.gl_waiting.proofs.waiting.Waiting.commit_keeping.Goals as goal

pub returns : goal.returns
returns c =
    let call = c.commit_keeping-next in
    let told = call.new.told.items in
    subst (λ (v : WaitingView). InTurn v (λ ended mid. KeepsLocks v c.args.txn c.args.keep c.args.since call.result.0 told ended mid) c.hand_on.result
    c.hand_on.new.self)
    c.self.view_is (in_turn c.self.inside.table _ call.result.1 call.new.self c.hand_on.result c.hand_on.new.self c.self.invariant call.ensures
    c.hand_on.ensures.hands)
