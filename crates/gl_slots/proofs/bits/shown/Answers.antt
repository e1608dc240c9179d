use Rattle.gl_slots.proofs.SlotLemmas.{bits_of-is}
use Rattle.gl_slots.proofs.bits.shown.Goals as goal

pub returns-clause-is : goal.returns-clause-is
returns-clause-is c = bits_of-is c.args.bits c.ranges.bits.fits
