use Rattle.gl_table.proofs.Words.{false, has_slot, number_of, state_in}
use Rattle.gl_table.proofs.inside.TurnedAway.{IsTurning}
use Rattle.gl_table.proofs.ledger.Ledger.split.Given as goal

-- the waits of all but those that are left are over
abbrev pub invariant-loop-waiter : goal.invariant-loop-waiter
invariant-loop-waiter l =
    IsTurning l.initial.self l.self l.from (state_in l.graph l.initial.self) (λ w. false) (has_slot l.waiters) l.fn.told.items l.told.items

-- each slot that is removed leaves fewer
abbrev pub decreases-loop-waiter : goal.decreases-loop-waiter
decreases-loop-waiter l = number_of l.waiters
