use Rattle.std.proofs.Common.{ap}
use Rattle.gl_waiting.specs.Waiting.{WaitingView}
use Rattle.gl_waiting.proofs.Turns.{same_turns}
use Rattle.gl_waiting.proofs.waiting.Waiting.withdraw_waiter.Goals as goal

pub invariant_of-self : goal.invariant_of-self
invariant_of-self c =
    let same = c.withdraw_waiter.ensures.rest in
    same_turns c.self.inside.table c.withdraw_waiter.new.self (ap (λ (v : WaitingView). v.queue) same) (ap (λ (v : WaitingView). v.manager) same)
    c.self.invariant
