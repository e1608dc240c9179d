use Rattle.std.proofs.lemmas.Nat.{and_le_l}
use Rattle.gl_slots.proofs.BitLemmas.{in_bits-and}
use Rattle.gl_slots.proofs.slots.Slots.intersection.Goals as goal

pub returns-clause-both : goal.returns-clause-both
returns-clause-both c = in_bits-and c.args.self.bits c.args.other.bits

pub returns-clause-no_more : goal.returns-clause-no_more
returns-clause-no_more c = and_le_l c.args.self.bits c.args.other.bits
