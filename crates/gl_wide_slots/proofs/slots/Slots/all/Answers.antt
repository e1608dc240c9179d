use Rattle.std.proofs.Common.{◌-◌, ◌^◌, ⊎_elim, arith, replicate}
use Rattle.std.proofs.lemmas.Bool.{cases_lt}
use Rattle.std.proofs.lemmas.Bool.Decides.{nat_tests}
use Rattle.gl_wide_slots.specs.Limit.{most_slots, most_words}
use Rattle.gl_wide_slots.proofs.WordLemmas.{in_words-all, in_words-past}
use Rattle.gl_wide_slots.proofs.slots.Slots.all.Goals as goal

pub returns : goal.returns
returns c u =
    ⊎_elim
    (λ low. let e = in_words-all most_words u (omega arith) in grind (arith, nat_tests))
    (λ high. let e = in_words-past (replicate most_words (2 ^ 64 - 1)) u (omega arith) in grind (arith, nat_tests))
    (cases_lt u most_slots)
