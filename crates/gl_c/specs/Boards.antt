-- Waits-for snapshots in C's memory, and what is found on them.
use Rattle.gl_slots.specs.Limit.{most_slots}
use Rattle.std.specs.Prelude.{◌≡◌, ℕ, ◌<◌, ◌≤◌, ◌↔◌, ◌||◌, IsTrue, Option, Some, None, map}
use Rattle.gl_waits.specs.declared.board.Board.{Board as TheBoard}
use Rattle.gl_waits.specs.Boards.{age_in, board_edge}
use Rattle.gl_slots.specs.Slots.{Bits, HasNoBit, bits_of, has_bit, no_bits, words_of}
use Rattle.gl_slots.specs.Words.{in_words}
use Rattle.gl_waits.specs.Waits.{IsLowestYoungest, IsOnCycle, IsOnCycleOf}
use Rattle.gl_table.specs.Table.{board_of}
use Rattle.gl_catalog.specs.Manager.{state_of}
use Rattle.gl_c.specs.declared.boards.board.Board.{Board}
use Rattle.gl_c.specs.declared.boards.board.Slots.{Slots}
use Rattle.gl_c.specs.declared.answers.found.Found.{Found}
use Rattle.gl_c.specs.declared.answers.reply.Reply.{Reply}
use Rattle.gl_c.specs.managers.Carries.{Declines}
use Rattle.gl_c.specs.managers.Guarded.{GuardedView}
use Rattle.gl_c.specs.Numbers.{bad_number, done, no_manager, no_place}
use Rattle.gl_c.specs.answers.Replies.{count_reply, status_reply}

-- a set of slots, as in C's memory: bit s mod 64 of word s div 64 stands for slot s
abbrev pub set_of : Slots → Bits
set_of s = bits_of (in_words s.words)

-- the words of a set of slots
abbrev pub slots_of : Bits → Slots
slots_of set = record { words = words_of (has_bit set) }

-- the snapshot in C's memory
abbrev pub board_in : Board → TheBoard
board_in b = record { epoch = b.epoch; ages = b.ages; rows = map set_of b.rows }

-- a call that asks for the snapshot of this moment
abbrev pub Shows : Option GuardedView → Reply → Board → Board → Option GuardedView → Type 0
Shows None r board board' s' = Declines None no_manager r s' × (board' ≡ board)
Shows (Some g) r board board' s' = (r ≡ status_reply done) × (board_in board' ≡ board_of (state_of g.manager)) × (s' ≡ Some g)

-- who waits for whom on another board is added: a slot waits for another exactly if it did before, or does on that board
pub record Joins (joined added joined' : Board) : Type 0 where
  pub waits : (t u : ℕ) → board_edge (board_in joined') t u ≡ (board_edge (board_in joined) t u || board_edge (board_in added) t u)
  pub ages : joined'.ages ≡ joined.ages
  pub epoch : joined'.epoch ≡ joined.epoch

-- the slots on a cycle with a slot; a number that is no slot is refused
pub record FindsCycle (b : Board) (slot : ℕ) (f : Found) : Type 0 where
  pub known : slot < most_slots → (f.status ≡ done) × ((u : ℕ) → IsTrue (has_bit (set_of f.slots) u) ↔ IsOnCycleOf (board_edge (board_in b)) slot u)
  pub other : most_slots ≤ slot → (f.status ≡ bad_number) × (f.slots ≡ slots_of no_bits)

-- the slots that are on any cycle
pub record FindsSuspects (b : Board) (f : Found) : Type 0 where
  pub status : f.status ≡ done
  pub slots : (s : ℕ) → IsTrue (has_bit (set_of f.slots) s) ↔ IsOnCycle (board_edge (board_in b)) s

-- the youngest of a set, if the set has any slot
abbrev pub Picks : Board → Slots → Option ℕ → Type 0
Picks b set None = HasNoBit (set_of set)
Picks b set (Some slot) = IsLowestYoungest (λ u. IsTrue (has_bit (set_of set) u)) (age_in (board_in b)) slot

-- the reply with the youngest slot
abbrev pub picked_reply : Option ℕ → Reply
picked_reply None = status_reply no_place
picked_reply (Some slot) = count_reply slot

-- the youngest slot of a set, as a reply
pub record PicksFor (b : Board) (set : Slots) (r : Reply) : Type 0 where
  pub slot : Option ℕ
  pub picks : Picks b set slot
  pub replied : r ≡ picked_reply slot
