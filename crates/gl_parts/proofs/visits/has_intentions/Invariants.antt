use Rattle.std.specs.Prelude.{◌≡◌, ℕ, true, false}
use Rattle.gl_slots.specs.Slots.{has_slot, number_of}
use Rattle.gl_catalog.specs.Manager.{state_of}
use Rattle.gl_parts.specs.Whole.{is_intention}
use Rattle.gl_parts.proofs.visits.has_intentions.Given as goal

-- no slot that was looked at holds more than an intention
abbrev pub invariant-slots : goal.invariant-slots
invariant-slots l = (u : ℕ) → has_slot l.left u ≡ false → is_intention ((state_of l.fn.manager).held u l.fn.node) ≡ true

abbrev pub decreases-slots : goal.decreases-slots
decreases-slots l = number_of l.left
