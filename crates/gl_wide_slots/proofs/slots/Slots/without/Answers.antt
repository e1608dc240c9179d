use Rattle.gl_wide_slots.proofs.SlotLemmas.{fewer}
use Rattle.gl_wide_slots.proofs.slots.Slots.without.Goals as goal

pub returns-clause-fewer : goal.returns-clause-fewer
returns-clause-fewer c = λ has. fewer c.args.self (record { words = c.clear.new.words }) c.args.slot (c.clear.ensures.within has) has c.clear.ensures.left
