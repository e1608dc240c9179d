use Rattle.gl_slots.proofs.BitLemmas.{in_bits-or}
use Rattle.gl_slots.proofs.slots.Slots.union.Goals as goal

pub returns : goal.returns
returns c = in_bits-or c.args.self.bits c.args.other.bits
