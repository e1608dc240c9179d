use Rattle.std.proofs.Common.{ap}
use Rattle.gl_waiting.specs.Waiting.{WaitingView}
use Rattle.gl_waiting.proofs.Turns.{same_turns}
use Rattle.gl_waiting.proofs.waiting.Waiting.climb.Goals as goal

pub invariant_of-self : goal.invariant_of-self
invariant_of-self c =
    let same = c.climb.ensures.rest in
    same_turns c.self.inside.table c.climb.new.self (ap (λ (v : WaitingView). v.queue) same) (ap (λ (v : WaitingView). v.manager) same)
    c.self.invariant
