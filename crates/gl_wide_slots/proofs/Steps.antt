-- The lemmas that the proofs of functions share.
use Rattle.gl_wide_slots.proofs.SlotLemmas.{slots_of-none, slots_of-lowest}

pub ruleset next_steps = (slots_of-none, slots_of-lowest)
