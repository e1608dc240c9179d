use Rattle.std.proofs.Common.{arith}
use Rattle.std.proofs.lemmas.Bool.Decides.{nat_tests}
use Rattle.gl_slots.proofs.BitLemmas.{in_bits-test, in_bits-above}
use Rattle.gl_slots.proofs.bits.has.Goals as goal

pub returns-then-slot-lt128 : goal.returns-then-slot-lt128
returns-then-slot-lt128 c = in_bits-test c.args.bits c.args.slot c.if-slot-lt128.true

pub returns-else-slot-lt128 : goal.returns-else-slot-lt128
returns-else-slot-lt128 c =
    let e = in_bits-above c.args.bits 128 c.args.slot c.ranges.bits.fits c.if-slot-lt128.false in
    let h = c.if-slot-lt128.false in
    grind (arith, nat_tests)
