-- Which keys an interval of an index contains.
use Rattle.std.specs.Prelude.{ℕ, ◌+◌, ◌<◌, ◌≤◌, List, ◌∷◌, length, slice_index_or}

-- the first key of an interval: 0 for interval 0, else its bound
abbrev pub beginning : List ℕ → ℕ → ℕ
beginning bounds place = slice_index_or (0 ∷ bounds) place 0

-- the interval at this place contains the key: from its first key on, to below that of the next one; the last has no upper end
pub record HoldsKey (bounds : List ℕ) (place key : ℕ) : Type 0 where
  pub begun : beginning bounds place ≤ key
  pub next : place < length bounds → key < beginning bounds (place + 1)
