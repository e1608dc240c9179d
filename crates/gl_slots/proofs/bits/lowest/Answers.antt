use Rattle.std.proofs.Common.{◌==◌, ap}
use Rattle.std.specs.Int.{w128}
use Rattle.std.proofs.lemmas.Nat.Bits.{bit_at-trailing_zeros}
use Rattle.gl_slots.proofs.bits.lowest.Goals as goal

pub returns-clause-member : goal.returns-clause-member
returns-clause-member c = ap (λ x. x == 1) (bit_at-trailing_zeros w128 c.args.bits c.requires c.ranges.bits.fits).1

pub returns-clause-none_below : goal.returns-clause-none_below
returns-clause-none_below c = λ u below. ap (λ x. x == 1) ((bit_at-trailing_zeros w128 c.args.bits c.requires c.ranges.bits.fits).2 u below)
