use Rattle.gl_waits.proofs.Words.{◌&&◌, ◌≡◌, board_edge, length, most_slots, nat_lt, row_edge, ℕ}
use Rattle.gl_waits.proofs.suspect.rows_in.Given as goal

abbrev pub invariant-loop-slot : goal.invariant-loop-slot
invariant-loop-slot l = (length l.rows ≡ most_slots) × ((s u : ℕ) → row_edge l.rows s u ≡ (nat_lt s l.slot && board_edge l.board s u))
