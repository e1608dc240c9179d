use Rattle.std.specs.Prelude.{◌≡◌, ℕ, true, false}
use Rattle.gl_slots.specs.Slots.{has_slot, number_of}
use Rattle.gl_model.specs.State.{waits_for}
use Rattle.gl_catalog.specs.Manager.{state_of}
use Rattle.gl_waiting.proofs.resting.waited_for_by.Given as goal

-- one of the waiters waits for each that was found; for whom one waits that was looked at, was found; and those that are left are of the waiters
abbrev pub invariant-waiters : goal.invariant-waiters
invariant-waiters l =
    ((u : ℕ) → has_slot l.found u ≡ true → (t : ℕ) × (has_slot l.fn.waiters t ≡ true) × (waits_for (state_of l.fn.manager) t u ≡ true))
    × ((t u : ℕ) → has_slot l.fn.waiters t ≡ true → has_slot l.left t ≡ false → waits_for (state_of l.fn.manager) t u ≡ true → has_slot l.found u ≡ true)
    × ((u : ℕ) → has_slot l.left u ≡ true → has_slot l.fn.waiters u ≡ true)

abbrev pub decreases-waiters : goal.decreases-waiters
decreases-waiters l = number_of l.left
