use Rattle.gl_slots.proofs.BitLemmas.{in_bits-above}
use Rattle.gl_slots.proofs.bits.above.Goals as goal

pub returns : goal.returns
returns c = λ u high. in_bits-above c.args.bits 128 u c.ranges.bits.fits high
