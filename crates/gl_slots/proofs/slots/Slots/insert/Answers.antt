use Rattle.gl_slots.proofs.BitLemmas.{in_bits-set}
use Rattle.gl_slots.proofs.slots.Slots.insert.Goals as goal

pub returns : goal.returns
returns c = in_bits-set c.args.self.now.bits c.args.slot c.requires
