use Rattle.std.proofs.Common.{arith}
use Rattle.std.proofs.lemmas.Bool.Decides.{nat_tests}
use Rattle.gl_wide_slots.proofs.WordLemmas.{in_words-test, in_words-past}
use Rattle.gl_wide_slots.proofs.words.has.Goals as goal

pub returns-then-place-lt-WORDS : goal.returns-then-place-lt-WORDS
returns-then-place-lt-WORDS c = in_words-test c.args.words.now c.args.slot

pub returns-else-place-lt-WORDS : goal.returns-else-place-lt-WORDS
returns-else-place-lt-WORDS c =
    let e = in_words-past c.args.words.now c.args.slot (omega arith) in
    let h = c.if-place-lt-WORDS.false in
    grind (arith, nat_tests)
