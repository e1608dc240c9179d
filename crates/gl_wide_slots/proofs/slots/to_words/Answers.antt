use Rattle.std.proofs.Common.{sym}
use Rattle.gl_wide_slots.proofs.SlotLemmas.{bits_of-is, words_of-is}
use Rattle.gl_wide_slots.proofs.slots.to_words.Goals as goal

pub returns-clause-is : goal.returns-clause-is
returns-clause-is c = words_of-is c.args.bits c.words_law.ensures.all c.words_law.ensures.fits

pub returns-clause-back : goal.returns-clause-back
returns-clause-back c = sym (bits_of-is c.args.bits c.words_law.ensures.all c.words_law.ensures.fits)
