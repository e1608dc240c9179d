use Rattle.std.specs.Prelude.{◌≡◌, ◌+◌, All, vec_len}
use Rattle.gl_shared.proofs.shared.cut_shares.Given as goal

abbrev pub invariant-loop-i : goal.invariant-loop-i
invariant-loop-i g l = (l.rest.parts + l._i ≡ l.count) × (l.rest.amount ≡ 0) × (vec_len l.shares ≡ l._i) × All (λ n. n ≡ 0) l.shares.items
