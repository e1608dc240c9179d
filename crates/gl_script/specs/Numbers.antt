-- The digits of a number, without a leading zero.
use Rattle.std.specs.Prelude.{◌≡◌, ℕ, ◌<◌, ◌≤◌, List, length, slice_index, All}

-- the byte of a decimal digit
abbrev pub IsDigit : ℕ → Type 0
IsDigit b = (48 ≤ b) × (b ≤ 57)

-- digits, the first of them no 0 unless it is the only one
pub record IsPlain (text : List ℕ) : Type 0 where
  pub some : 0 < length text
  pub digits : All IsDigit text
  pub lead : slice_index text 0 ≡ 48 → length text ≡ 1
