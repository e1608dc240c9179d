use Rattle.std.proofs.Common.{subst}
use Rattle.gl_catalog.specs.Paths.{Ask}
use Rattle.gl_waiting.specs.Asking.{InTurn, LocksPath}
use Rattle.gl_waiting.specs.Waiting.{WaitingView}
use Rattle.gl_waiting.proofs.Turns.{in_turn}
use Rattle.gl_waiting.proofs.waiting.Waiting.lock_path.Goals as goal

pub returns : goal.returns
returns c =
    let call = c.lock_path-reached in
    let txn = c.args.txn in
    let ask : Ask = (c.args.node, c.args.mode) in
    let told = call.new.told.items in
    subst (λ (v : WaitingView). InTurn v (λ ended mid. LocksPath v txn ask call.result.0 told ended mid) c.hand_on.result c.hand_on.new.self)
    c.self.view_is (in_turn c.self.inside.table _ call.result.1 call.new.self c.hand_on.result c.hand_on.new.self c.self.invariant call.ensures
    c.hand_on.ensures.hands)
