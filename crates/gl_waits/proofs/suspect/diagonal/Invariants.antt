use Rattle.gl_waits.proofs.Words.{◌&&◌, ◌≡◌, has_slot, nat_lt, row_edge, ℕ}
use Rattle.gl_waits.proofs.suspect.diagonal.Given as goal

abbrev pub invariant-loop-slot : goal.invariant-loop-slot
invariant-loop-slot l = (s : ℕ) → has_slot l.found s ≡ (nat_lt s l.slot && row_edge l.rows s s)
