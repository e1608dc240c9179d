use Rattle.std.proofs.Common.{subst}
use Rattle.gl_waiting.specs.Asking.{GoesOn, InTurn}
use Rattle.gl_waiting.specs.Waiting.{WaitingView}
use Rattle.gl_waiting.proofs.Turns.{in_turn}
use Rattle.gl_waiting.proofs.waiting.Waiting.go_on.Goals as goal

pub returns : goal.returns
returns c =
    let call = c.go_on-came in
    subst (λ (v : WaitingView). InTurn v (λ ended mid. GoesOn v call.result.0 call.new.told.items ended mid) c.hand_on.result c.hand_on.new.self)
    c.self.view_is (in_turn c.self.inside.table _ call.result.1 call.new.self c.hand_on.result c.hand_on.new.self c.self.invariant call.ensures
    c.hand_on.ensures.hands)
