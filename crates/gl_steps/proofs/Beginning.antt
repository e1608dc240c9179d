-- What the two commands leave by which a transaction begins.
use Rattle.gl_steps.proofs.Words.{◌+◌, [], ◌≡◌, Answer, begun_since, free_slot, Some, State, Told, ℕ}
use Rattle.gl_steps.specs.declared.command.Answer.TheVariants as answer

-- a transaction begins in the first free slot, with this `since`
abbrev pub Begins : ℕ → State → Answer → Told → State → Type 0
Begins since s a told' s' =
    (t : ℕ) × (free_slot s ≡ Some t) × (a ≡ answer.Begun (record { slot = t; age = s.begins + 1 })) × (told' ≡ []) × (s' ≡ begun_since s t since)
