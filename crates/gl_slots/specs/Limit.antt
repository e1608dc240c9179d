-- How many slots there are.
use Rattle.std.specs.Prelude.{ℕ}

-- slots are below this
abbrev pub most_slots : ℕ
most_slots = 128

-- how many words of 64 bits a set has
abbrev pub most_words : ℕ
most_words = 2
