use Rattle.gl_slots.specs.Slots.{number_of}
use Rattle.gl_rows.proofs.LeftRows.{IsOnWay}
use Rattle.gl_rows.proofs.rows.Rows.let_each_left_go.Given as goal

-- the rows of the slots before were let go
abbrev pub invariant-loop-slot : goal.invariant-loop-slot
invariant-loop-slot l = IsOnWay l.fn.manager l.fn.self l.slots l.manager l.self

abbrev pub decreases-loop-slot : goal.decreases-loop-slot
decreases-loop-slot l = number_of l.slots
