-- What a snapshot shows.
use Rattle.std.specs.Prelude.{◌≡◌, ℕ, Bool, false, List, get_or, replicate, slice_index}
use Rattle.gl_slots.specs.declared.slots.Slots.{Slots}
use Rattle.gl_slots.specs.Limit.{most_slots}
use Rattle.gl_slots.specs.Slots.{has_bit, has_slot, no_bits, no_slots}
use Rattle.gl_waits.specs.declared.board.Board.{Board}

-- row s, a set of slots, has slot u
abbrev pub row_edge : List Slots → ℕ → ℕ → Bool
row_edge rows s u = has_slot (get_or rows s no_slots) u

-- slot s waits for slot u
abbrev pub board_edge : Board → ℕ → ℕ → Bool
board_edge b s u = has_bit (get_or b.rows s no_bits) u

-- nobody waits
abbrev pub ShowsNobody : Board → Type 0
ShowsNobody b = (s u : ℕ) → board_edge b s u ≡ false

-- the snapshot without transactions
abbrev pub idle_board : ℕ → Board
idle_board epoch = record { epoch = epoch; ages = replicate most_slots 0; rows = replicate most_slots no_bits }

-- the age of the transaction in slot s
abbrev pub age_in : Board → ℕ → ℕ
age_in b s = slice_index b.ages s
