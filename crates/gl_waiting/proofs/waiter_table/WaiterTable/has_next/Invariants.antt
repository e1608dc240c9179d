use Rattle.std.specs.Prelude.{◌≡◌, ℕ, None, false}
use Rattle.gl_slots.specs.Slots.{has_slot, number_of}
use Rattle.gl_waiting.specs.Ends.{next_at}
use Rattle.gl_waiting.proofs.waiter_table.WaiterTable.has_next.Given as goal

-- no slot that was looked at has a waiter that goes on
abbrev pub invariant-slots : goal.invariant-slots
invariant-slots l = (u : ℕ) → has_slot l.left u ≡ false → next_at l.fn.self u ≡ None

abbrev pub decreases-slots : goal.decreases-slots
decreases-slots l = number_of l.left
