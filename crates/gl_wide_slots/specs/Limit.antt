-- How many slots there are.
use Rattle.std.specs.Prelude.{ℕ}

-- slots are below this
abbrev pub most_slots : ℕ
most_slots = 1024

-- the number of 64-bit words of a set
abbrev pub most_words : ℕ
most_words = 16
