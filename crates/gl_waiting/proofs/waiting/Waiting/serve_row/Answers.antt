use Rattle.std.proofs.Common.{subst}
use Rattle.gl_waiting.specs.Asking.{InTurn, ServesRow}
use Rattle.gl_waiting.specs.Waiting.{WaitingView}
use Rattle.gl_waiting.proofs.Turns.{in_turn}
use Rattle.gl_waiting.proofs.waiting.Waiting.serve_row.Goals as goal

pub returns : goal.returns
returns c =
    let call = c.serve_row-answer in
    subst (λ (v : WaitingView). InTurn v (λ ended mid. ServesRow v c.args.call call.result.0 call.new.told.items ended mid) c.hand_on.result c.hand_on.new.self)
    c.self.view_is (in_turn c.self.inside.table _ call.result.1 call.new.self c.hand_on.result c.hand_on.new.self c.self.invariant call.ensures
    c.hand_on.ensures.hands)
