use Rattle.std.proofs.Common.{arith}
use Rattle.gl_wide_slots.proofs.WordLemmas.{in_words-clear, in_words-past, absent}
use Rattle.gl_wide_slots.proofs.words.clear.Goals as goal

pub returns-then-place-lt-WORDS-clause-left : goal.returns-then-place-lt-WORDS-clause-left
returns-then-place-lt-WORDS-clause-left c = in_words-clear c.args.words.now c.args.slot (omega arith)

pub returns-else-place-lt-WORDS-clause-left : goal.returns-else-place-lt-WORDS-clause-left
returns-else-place-lt-WORDS-clause-left c = absent c.args.words.now c.args.slot (in_words-past c.args.words.now c.args.slot (omega arith))

pub returns-else-place-lt-WORDS-clause-within : goal.returns-else-place-lt-WORDS-clause-within
returns-else-place-lt-WORDS-clause-within c = λ has. cc (has, in_words-past c.args.words.now c.args.slot (omega arith))
