use Rattle.std.proofs.Common.{arith}
use Rattle.gl_wide_slots.proofs.WordLemmas.{in_words-past}
use Rattle.gl_wide_slots.proofs.words.above.Goals as goal

pub returns : goal.returns
returns c = λ u high. in_words-past c.args.words.now u (omega arith)
