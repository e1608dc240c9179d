-- Sets of slots.
use Rattle.std.specs.Prelude.{◌≡◌, ℕ, ◌<◌, ◌%◌, ◌^◌, ◌==◌, Bool, true, false, List, length, replicate}
use Rattle.std.specs.List.{filter, range_with_len, list_all}
use Rattle.gl_wide_slots.specs.Limit.{most_slots, most_words}
use Rattle.gl_wide_slots.specs.Words.{in_words, words_below}
use Rattle.gl_wide_slots.specs.declared.slots.Slots.{Slots}

-- the same as most_slots, not unfolded, so that no proof visits every slot
unfoldable pub slot_limit : ℕ
slot_limit = most_slots

-- slot u is in the set
abbrev pub has_slot : Slots → ℕ → Bool
has_slot s u = in_words s.words u

-- no slot is in the set
abbrev pub HasNoSlot : Slots → Type 0
HasNoSlot s = (u : ℕ) → has_slot s u ≡ false

-- the set without slots
abbrev pub no_slots : Slots
no_slots = record { words = replicate most_words 0 }

-- k is the lowest slot of the set
pub record IsLowest (s : Slots) (k : ℕ) : Type 0 where
  pub within : k < most_slots
  pub member : has_slot s k ≡ true
  pub none_below : (u : ℕ) → u < k → has_slot s u ≡ false

-- the slots of the set, from the lowest on
abbrev pub slots_of : Slots → List ℕ
slots_of s = filter (has_slot s) (range_with_len 0 slot_limit)

-- how many slots are in the set, which decreases when slots are removed
abbrev pub number_of : Slots → ℕ
number_of s = length (slots_of s)

-- the same as HasNoSlot, as a test: no word has a bit below 64
abbrev pub has_none : Slots → Bool
has_none s = list_all (λ w. w % 2 ^ 64 == 0) s.words

-- a set of slots as snapshots show it: the set itself
abbrev pub Bits : Type 0
Bits = Slots

-- slot u is in the set that a snapshot shows so
abbrev pub has_bit : Bits → ℕ → Bool
has_bit bits u = has_slot bits u

-- no slot is in the set that a snapshot shows so
abbrev pub HasNoBit : Bits → Type 0
HasNoBit bits = HasNoSlot bits

-- the empty set as snapshots show it
abbrev pub no_bits : Bits
no_bits = no_slots

-- the set of the slots that pass, as snapshots show it
unfoldable pub bits_of : (ℕ → Bool) → Bits
bits_of member = record { words = words_below most_words member }

-- the slots that pass, as words
unfoldable pub words_of : (ℕ → Bool) → List ℕ
words_of member = words_below most_words member
