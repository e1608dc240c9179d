use Rattle.std.proofs.Common.{◌≡◌, ℕ, true, ◌==◌, ap, ◌∙◌, arith}
use Rattle.std.proofs.lemmas.Bool.Decides.{nat_tests}
use Rattle.gl_slots.specs.Bits.{in_bits}
use Rattle.gl_slots.proofs.BitLemmas.{in_bits-zero, no_bit-zero}
use Rattle.gl_slots.proofs.slots.Slots.is_empty.Goals as goal

zero_from : (n : ℕ) → (n == 0) ≡ true → n ≡ 0
zero_from n h = grind (arith, nat_tests)

pub returns : goal.returns
returns c = (
  λ h u. ap (λ n. in_bits n u) (zero_from c.args.self.now.bits h) ∙ in_bits-zero u,
  λ none. let e = no_bit-zero c.args.self.now.bits none in
      grind (arith, nat_tests),
)
