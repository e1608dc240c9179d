use Rattle.std.specs.Prelude.{◌≡◌, ℕ, true}
use Rattle.gl_slots.specs.Slots.{HasNoSlot, has_slot, number_of}
use Rattle.gl_catalog.specs.Manager.{state_of}
use Rattle.gl_waiting.specs.Resting.{ChoosesEach, EndsEach, IsChosen, RestsWell}
use Rattle.gl_waiting.specs.declared.resting.Number.TheVariants as number
use Rattle.gl_waiting.proofs.resting.Resting.end.Given as goal

-- those who are left rest and are to be ended, as it was before; the others were ended
abbrev pub invariant-each : goal.invariant-each
invariant-each l =
    EndsEach l.fn.number l.fn.waiting l.ended l.told.items l.off l.waiting
    × ChoosesEach l.fn.whom l.fn.waiting l.ended l.waiting l.fn.self.resting l.self.resting
    × RestsWell (state_of l.waiting.manager) l.self
    × (l.fn.number ≡ number.One → HasNoSlot l.left)
    × ((u : ℕ) → has_slot l.left u ≡ true → (has_slot l.self.resting u ≡ true)
    × (has_slot l.fn.self.resting u ≡ true) × IsChosen l.fn.whom (state_of l.fn.waiting.manager) l.fn.self.resting u)

abbrev pub decreases-each : goal.decreases-each
decreases-each l = number_of l.left
