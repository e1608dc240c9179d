use Rattle.gl_slots.proofs.BitLemmas.{in_bits-not}
use Rattle.gl_slots.proofs.bits.complement.Goals as goal

pub returns : goal.returns
returns c = λ u. in_bits-not c.args.bits u c.ranges.bits.fits
