use Rattle.gl_wide_slots.proofs.SlotLemmas.{bits_of-is}
use Rattle.gl_wide_slots.proofs.slots.from_words.Goals as goal

pub returns-clause-is : goal.returns-clause-is
returns-clause-is c = bits_of-is (record { words = c.args.words }) c.words_law.ensures.all c.words_law.ensures.fits
