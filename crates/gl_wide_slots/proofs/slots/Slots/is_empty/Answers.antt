use Rattle.gl_wide_slots.proofs.WordLemmas.{first_none, none_first}
use Rattle.gl_wide_slots.proofs.slots.Slots.is_empty.Goals as goal

pub returns : goal.returns
returns c = (
  none_first c.args.self.now.words c.first.result c.is_none.result c.first.ensures.some c.first.ensures.none c.is_none.ensures,
  first_none c.args.self.now.words c.first.result c.is_none.result c.first.ensures.some c.first.ensures.none c.is_none.ensures,
)
