use Rattle.gl_slots.proofs.WordLemmas.{halves-words_of, in_words-halves, halves-back}
use Rattle.gl_slots.proofs.slots.to_words.Goals as goal

pub returns-clause-is : goal.returns-clause-is
returns-clause-is c = halves-words_of c.args.bits c.ranges.bits.fits

pub returns-clause-shows : goal.returns-clause-shows
returns-clause-shows c = λ u. in_words-halves c.args.bits u c.ranges.bits.fits

pub returns-clause-back : goal.returns-clause-back
returns-clause-back c = halves-back c.args.bits c.ranges.bits.fits
