use Rattle.gl_slots.proofs.BitLemmas.{in_bits-rest}
use Rattle.gl_slots.proofs.slots.Slots.take_lowest.Goals as goal

pub returns-clause-left : goal.returns-clause-left
returns-clause-left c = in_bits-rest c.args.self.now.bits c.in_ok-lowest.lowest c.in_ok-lowest.ensures.some.member c.in_ok-lowest.ensures.some.none_below
