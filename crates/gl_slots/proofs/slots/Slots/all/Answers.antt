use Rattle.std.proofs.Common.{◌-◌, ◌^◌, ⊎_elim, arith}
use Rattle.std.proofs.lemmas.Bool.{cases_lt}
use Rattle.std.proofs.lemmas.Bool.Decides.{nat_tests}
use Rattle.gl_slots.proofs.BitLemmas.{in_bits-ones, in_bits-above}
use Rattle.gl_slots.proofs.slots.Slots.all.Goals as goal

pub returns : goal.returns
returns c u =
    ⊎_elim
    (λ low. let e = in_bits-ones 128 u low in grind (arith, nat_tests))
    (λ high. let e = in_bits-above (2 ^ 128 - 1) 128 u (omega arith) high in grind (arith, nat_tests))
    (cases_lt u 128)
