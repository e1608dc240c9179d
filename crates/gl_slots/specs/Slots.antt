-- Sets of slots.
use Rattle.std.specs.Prelude.{◌≡◌, ℕ, ◌<◌, ◌==◌, Bool, true, false, List}
use Rattle.std.specs.List.{filter, range_with_len}
use Rattle.gl_slots.specs.Limit.{most_slots, most_words}
use Rattle.gl_slots.specs.Bits.{in_bits, bits_below}
use Rattle.gl_slots.specs.Words.{words_below}
use Rattle.gl_slots.specs.declared.slots.Slots.{Slots}

-- the same as most_slots, not unfolded, so that no proof visits every slot
unfoldable pub slot_limit : ℕ
slot_limit = most_slots

-- slot u is in the set
abbrev pub has_slot : Slots → ℕ → Bool
has_slot s u = in_bits s.bits u

-- no slot is in the set
abbrev pub HasNoSlot : Slots → Type 0
HasNoSlot s = (u : ℕ) → has_slot s u ≡ false

-- the set without slots
abbrev pub no_slots : Slots
no_slots = record { bits = 0 }

-- k is the lowest slot of the set
pub record IsLowest (s : Slots) (k : ℕ) : Type 0 where
  pub within : k < most_slots
  pub member : has_slot s k ≡ true
  pub none_below : (u : ℕ) → u < k → has_slot s u ≡ false

-- the slots of the set, from the lowest on
abbrev pub slots_of : Slots → List ℕ
slots_of s = filter (has_slot s) (range_with_len 0 slot_limit)

-- a number that decreases when slots are removed
abbrev pub number_of : Slots → ℕ
number_of s = s.bits

-- the same as HasNoSlot, as a test
abbrev pub has_none : Slots → Bool
has_none s = number_of s == 0

-- a set of slots as snapshots show it
abbrev pub Bits : Type 0
Bits = ℕ

-- slot u is in the set that a snapshot shows so
abbrev pub has_bit : Bits → ℕ → Bool
has_bit bits u = in_bits bits u

-- no slot is in the set that a snapshot shows so
abbrev pub HasNoBit : Bits → Type 0
HasNoBit bits = (u : ℕ) → has_bit bits u ≡ false

-- the empty set as snapshots show it
abbrev pub no_bits : Bits
no_bits = 0

-- the set of the slots that pass, as snapshots show it
unfoldable pub bits_of : (ℕ → Bool) → Bits
bits_of member = bits_below most_slots member

-- the slots that pass, as words
unfoldable pub words_of : (ℕ → Bool) → List ℕ
words_of member = words_below most_words member
