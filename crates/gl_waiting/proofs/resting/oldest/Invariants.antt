use Rattle.std.specs.Prelude.{◌≡◌, ◌≤◌, ℕ, true, false}
use Rattle.gl_slots.specs.Slots.{has_slot, number_of}
use Rattle.gl_model.specs.State.{age_of}
use Rattle.gl_catalog.specs.Manager.{state_of}
use Rattle.gl_waiting.proofs.resting.oldest.Given as goal

-- none that was looked at has a lower age than the first, and it and those that are left are of these
abbrev pub invariant-slots : goal.invariant-slots
invariant-slots l =
    (has_slot l.fn.among l.first ≡ true)
    × ((u : ℕ) → has_slot l.fn.among u ≡ true → has_slot l.left u ≡ false → age_of (state_of l.fn.manager) l.first ≤ age_of (state_of l.fn.manager) u)
    × ((u : ℕ) → has_slot l.left u ≡ true → has_slot l.fn.among u ≡ true)

abbrev pub decreases-slots : goal.decreases-slots
decreases-slots l = number_of l.left
