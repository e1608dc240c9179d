use Rattle.gl_table.proofs.Words.{take, true}
use Rattle.gl_model.proofs.law.Strays.{IsSetOf}
use Rattle.gl_table.proofs.ledger.Ledger.waiters.Given as goal

-- the set has those so far
abbrev pub invariant-loop-slot : goal.invariant-loop-slot
invariant-loop-slot l = IsSetOf (λ w. true) (take l.slot-index l.slot-items) l.waiters
