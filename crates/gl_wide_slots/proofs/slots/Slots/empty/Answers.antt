use Rattle.gl_wide_slots.specs.Limit.{most_words}
use Rattle.gl_wide_slots.proofs.WordLemmas.{in_words-zeros}
use Rattle.gl_wide_slots.proofs.slots.Slots.empty.Goals as goal

pub returns-clause-none : goal.returns-clause-none
returns-clause-none c u = in_words-zeros most_words u
