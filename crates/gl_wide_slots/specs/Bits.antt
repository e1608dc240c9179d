-- The bits of a number.
use Rattle.std.specs.Prelude.{ℕ, zero, suc, ◌+◌, ◌*◌, Bool, cond, ◌==◌}
use Rattle.std.specs.Int.{bit_at}

-- bit u is set
abbrev pub in_bits : ℕ → ℕ → Bool
in_bits bits u = bit_at bits u == 1

-- the number whose bit u is set if u is below n and passes
abbrev pub bits_below : ℕ → (ℕ → Bool) → ℕ
bits_below zero member = 0
bits_below (suc n) member = cond (member 0) 1 0 + 2 * bits_below n (λ u. member (suc u))
