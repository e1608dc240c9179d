use Rattle.std.proofs.Common.{◌≡◌, ℕ, Bool, false, not, ◌&&◌, ◌==◌, ◌≤◌, ⊎_elim, arith}
use Rattle.std.proofs.lemmas.Bool.{cases_lt}
use Rattle.std.proofs.lemmas.Bool.Decides.{nat_tests}
use Rattle.gl_slots.specs.Bits.{in_bits}
use Rattle.gl_slots.proofs.BitLemmas.{in_bits-clear, in_bits-above, clear-lt}
use Rattle.gl_slots.proofs.bits.without.Goals as goal

pub returns-then-slot-lt128-clause-left : goal.returns-then-slot-lt128-clause-left
returns-then-slot-lt128-clause-left c = in_bits-clear c.args.bits c.args.slot c.ranges.bits.fits c.if-slot-lt128.true

pub returns-then-slot-lt128-clause-fewer : goal.returns-then-slot-lt128-clause-fewer
returns-then-slot-lt128-clause-fewer c = clear-lt c.args.bits c.args.slot c.if-slot-lt128.true

same : (b : Bool) (u k : ℕ) → (128 ≤ u → b ≡ false) → 128 ≤ k → b ≡ (b && not (u == k))
same b u k above high =
    ⊎_elim (λ low. grind (arith, nat_tests)) (λ far. let e = above far in grind (arith, nat_tests)) (cases_lt u 128)

pub returns-else-slot-lt128-clause-left : goal.returns-else-slot-lt128-clause-left
returns-else-slot-lt128-clause-left c =
    λ u. same (in_bits c.args.bits u) u c.args.slot (in_bits-above c.args.bits 128 u c.ranges.bits.fits) c.if-slot-lt128.false

pub returns-else-slot-lt128-clause-fewer : goal.returns-else-slot-lt128-clause-fewer
returns-else-slot-lt128-clause-fewer c = λ has. cc (has, in_bits-above c.args.bits 128 c.args.slot c.ranges.bits.fits c.if-slot-lt128.false)
