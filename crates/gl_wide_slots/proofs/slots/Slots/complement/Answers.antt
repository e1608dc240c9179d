use Rattle.std.proofs.Common.{⊎_elim, arith}
use Rattle.std.proofs.lemmas.Bool.{cases_lt}
use Rattle.std.proofs.lemmas.Bool.Decides.{nat_tests}
use Rattle.gl_wide_slots.specs.Limit.{most_slots, most_words}
use Rattle.gl_wide_slots.proofs.WordLemmas.{in_words-not, in_words-none}
use Rattle.gl_wide_slots.proofs.slots.Slots.complement.Goals as goal

pub returns : goal.returns
returns c u =
    ⊎_elim
    (λ low.
    let e = in_words-not most_words c.args.self.words c.turn.new.words c.turn.ensures.turned c.turn.ensures.fits u (omega arith) in
    grind (arith, nat_tests))
    (λ high.
    let e = in_words-none c.turn.new.words u (c.turn.ensures.past _ (omega arith)) in
    grind (arith, nat_tests))
    (cases_lt u most_slots)
