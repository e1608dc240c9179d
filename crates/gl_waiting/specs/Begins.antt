-- The begin queue: which begin leaves it, when the first of them ends, and the begins that were handed on.
use Rattle.std.specs.Prelude.{ℕ, ◌==◌, Bool, false, List, [], ◌∷◌, Option, Some, None, Result, if◌then◌else◌, min, nat_le}
use Rattle.std.specs.List.{filter_map, reduce}
use Rattle.gl_modes.specs.declared.refusal.Refusal.{Refusal}
use Rattle.gl_model.specs.declared.txn.TxnId.{TxnId}
use Rattle.gl_waiting.specs.declared.begins.QueuedBegin.{QueuedBegin}

-- a begin that was handed on, with its answer
abbrev pub Begun : Type 0
Begun = QueuedBegin × Result TxnId Refusal

-- the begins that wait for a slot, and those that were handed on and are not taken yet, the first first
pub record BeginsView : Type 0 where
  pub waiting : List QueuedBegin
  pub begun : List Begun

-- the begin has this name
abbrev pub has_word : ℕ → QueuedBegin → Bool
has_word word b = b.word == word

-- this time is at or before now; `None` never is
abbrev pub is_over : ℕ → Option ℕ → Bool
is_over now None = false
is_over now (Some until) = nat_le until now

-- the time of the begin is over
abbrev pub is_late : ℕ → QueuedBegin → Bool
is_late now b = is_over now b.until

-- the queue without the first begin that passes the test; all others stay in their order
abbrev pub without_first : (QueuedBegin → Bool) → List QueuedBegin → List QueuedBegin
without_first test [] = []
without_first test (b ∷ queue) = if test b then queue else b ∷ without_first test queue

-- the least time at which a begin of the queue ends, of those that have one
abbrev pub earliest_of : List QueuedBegin → Option ℕ
earliest_of queue = reduce min (filter_map (λ b. b.until) queue)

-- the earlier of two times, of which each may be none
abbrev pub earlier : Option ℕ → Option ℕ → Option ℕ
earlier None other = other
earlier (Some one) None = Some one
earlier (Some one) (Some other) = Some (min one other)
