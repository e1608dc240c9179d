use Rattle.gl_waits.proofs.Words.{◌&&◌, ◌||◌, ◌≡◌, has_slot, length, most_slots, nat_lt, row_edge, ℕ}
use Rattle.gl_waits.proofs.suspect.pass_through.Given as goal

abbrev pub invariant-loop-slot : goal.invariant-loop-slot
invariant-loop-slot l = (length l.reaches ≡ most_slots)
    × ((s u : ℕ) → row_edge l.reaches s u ≡ (row_edge l.fn.reaches s u || (nat_lt s l.slot && (row_edge l.fn.reaches s l.middle && has_slot l.beyond u))))
