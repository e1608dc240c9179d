use Rattle.std.specs.Prelude.{◌≡◌, ◌&&◌, ℕ, not, true, false}
use Rattle.gl_modes.specs.Modes.{are_compatible}
use Rattle.gl_slots.specs.Slots.{has_slot, number_of}
use Rattle.gl_catalog.specs.Manager.{state_of}
use Rattle.gl_waiting.proofs.resting.holding.Given as goal

-- those that are left were found; of those that were looked at, the ones that do not go with the mode
abbrev pub invariant-slots : goal.invariant-slots
invariant-slots l =
    ((u : ℕ) → has_slot l.left u ≡ true → (has_slot l.fn.among u ≡ true) × (has_slot l.found u ≡ true))
    × ((u : ℕ) → has_slot l.left u ≡ false
    → has_slot l.found u ≡ (has_slot l.fn.among u && not (are_compatible l.fn.mode ((state_of l.fn.manager).held u l.fn.node))))

abbrev pub decreases-slots : goal.decreases-slots
decreases-slots l = number_of l.left
