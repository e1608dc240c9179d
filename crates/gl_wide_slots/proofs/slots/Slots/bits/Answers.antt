use Rattle.gl_wide_slots.proofs.SlotLemmas.{bits_of-is}
use Rattle.gl_wide_slots.proofs.slots.Slots.bits.Goals as goal

pub returns-clause-is : goal.returns-clause-is
returns-clause-is c = bits_of-is c.args.self c.words_law.ensures.all c.words_law.ensures.fits
