use Rattle.gl_waits.proofs.Words.{◌≡◌, length, most_slots, row_edge}
use Rattle.gl_waits.proofs.Closing.{IsClosedBelow}
use Rattle.gl_waits.proofs.suspect.reaches_of_all.Given as goal

abbrev pub invariant-loop-middle : goal.invariant-loop-middle
invariant-loop-middle l = IsClosedBelow (row_edge l.fn.rows) (row_edge l.reaches) l.middle × (length l.reaches ≡ most_slots)
