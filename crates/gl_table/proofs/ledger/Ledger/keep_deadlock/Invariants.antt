use Rattle.gl_table.proofs.Words.{Graph, number_of, state_on}
use Rattle.gl_model.proofs.law.KeptRows.{IsKeptBut}
use Rattle.gl_table.proofs.ledger.Ledger.keep_deadlock.Given as goal

abbrev pub invariant-loop-waiter : goal.invariant-loop-waiter
invariant-loop-waiter l = (g : Graph) → IsKeptBut (state_on g l.self) l.slot l.victim l.cycle l.left l.deadlock

-- each row leaves fewer slots
abbrev pub decreases-loop-waiter : goal.decreases-loop-waiter
decreases-loop-waiter l = number_of l.left
