use Rattle.std.specs.Prelude.{◌≡◌, ℕ, false}
use Rattle.gl_slots.specs.Slots.{has_slot, number_of}
use Rattle.gl_catalog.specs.Manager.{state_of}
use Rattle.gl_parts.specs.Visiting.{lacks}
use Rattle.gl_parts.proofs.visits.next_copy.Given as goal

-- no slot that was looked at, or does not hold the node in the part, lacks anything
abbrev pub invariant-slots : goal.invariant-slots
invariant-slots l =
    (u : ℕ) → has_slot l.left u ≡ false → lacks (state_of l.fn.main) l.fn.in_main (state_of l.fn.part) l.fn.in_part u ≡ false

abbrev pub decreases-slots : goal.decreases-slots
decreases-slots l = number_of l.left
