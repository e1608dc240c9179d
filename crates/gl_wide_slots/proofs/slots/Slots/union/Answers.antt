use Rattle.gl_wide_slots.proofs.WordLemmas.{in_words-or}
use Rattle.gl_wide_slots.proofs.slots.Slots.union.Goals as goal

pub returns : goal.returns
returns c = in_words-or c.args.self.words c.args.other.words c.add.new.words c.add.ensures
