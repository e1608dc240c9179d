use Rattle.std.specs.Prelude.{◌≡◌, ◌+◌, sum, length}
use Rattle.gl_shared.proofs.shared.merge_all.Given as goal

abbrev pub invariant-loop-share : goal.invariant-loop-share
invariant-loop-share g l = (l.all.parts ≡ l.initial.all.parts + length l.yielded) × (l.all.amount ≡ l.initial.all.amount + sum l.yielded)
