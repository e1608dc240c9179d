use Rattle.std.proofs.Common.{arith}
use Rattle.gl_wide_slots.proofs.WordLemmas.{in_words-set}
use Rattle.gl_wide_slots.proofs.words.put.Goals as goal

pub returns : goal.returns
returns c = in_words-set c.args.words.now c.args.slot (omega arith)
