-- Lists of published snapshots.
use Rattle.std.specs.Prelude.{◌≡◌, ℕ, ◌≤◌, ◌<◌, true, false, List, [], ◌∷◌, ◌++◌}
use mathlib.Core.List.{IsPrefix}
use Rattle.gl_modes.specs.declared.node.NodeId.{NodeId}
use Rattle.gl_header.specs.Header.{holds}
use Rattle.gl_slots.specs.Slots.{has_slot}
use Rattle.gl_slots.specs.declared.slots.Slots.{Slots}
use Rattle.gl_waits.specs.declared.board.Board.{Board}
use Rattle.gl_waits.specs.Boards.{age_in, board_edge, ShowsNobody}
use Rattle.gl_waits.specs.Waits.{IsOnNoCycle}
use Rattle.gl_model.specs.declared.answers.Detect.{Detect}
use Rattle.gl_model.specs.declared.answers.Detect.TheVariants.{AtBlock}
use Rattle.gl_model.specs.State.{State, age_of, is_wait, is_waiting_at, members, status_of, waits_for}

-- the epoch of the last snapshot of the list, or e
abbrev pub last_epoch : ℕ → List Board → ℕ
last_epoch e [] = e
last_epoch e (b ∷ bs) = last_epoch b.epoch bs

-- epochs never decrease, from e on
abbrev pub Rising : ℕ → List Board → Type 0
Rising e [] = Unit {0}
Rising e (b ∷ bs) = (e ≤ b.epoch) × Rising b.epoch bs

-- no slot waits for itself or for a free slot, and no free slot waits; with detection at block no slot is on a cycle, so there is no suspect
pub record Fine (detect : Detect) (b : Board) : Type 0 where
  pub self : (s : ℕ) → board_edge b s s ≡ false
  pub free : (s u : ℕ) → board_edge b s u ≡ true → (0 < age_in b s) × (0 < age_in b u)
  pub calm : detect ≡ AtBlock → (s : ℕ) → IsOnNoCycle (board_edge b) s

abbrev pub AllFine : Detect → List Board → Type 0
AllFine detect [] = Unit {0}
AllFine detect (b ∷ bs) = Fine detect b × AllFine detect bs

-- the list ends with this snapshot
abbrev pub Ends : List Board → Board → Type 0
Ends list board = (front : List Board) × (list ≡ front ++ board ∷ [])

-- no transaction waits on the last snapshot of the list
abbrev pub EndsIdle : List Board → Type 0
EndsIdle list = (board : Board) × Ends list board × ShowsNobody board

-- what holds of each list of a table's snapshots: it begins with the table's first, its epochs never decrease, and each is fine
pub record IsLawful (detect : Detect) (first : Board) (list : List Board) : Type 0 where
  pub begins : IsPrefix (first ∷ []) list
  pub rising : Rising 0 list
  pub fine : AllFine detect list

-- the set has all parties to waits: every waiter, and every holder of a node with a waiter
abbrev pub HasParties : State → Slots → Type 0
HasParties s set =
    (t : ℕ) → has_slot set t ≡ false
    → (is_wait (status_of s t) ≡ false) × ((u : ℕ) (n : NodeId) → is_waiting_at s u n ≡ true → holds (members s n) t ≡ false)

-- the snapshot shows each wait of the state, with the ages of the waiter and of the transaction waited for
pub record ShowsWaits (s : State) (b : Board) : Type 0 where
  pub waits : (t u : ℕ) → board_edge b t u ≡ waits_for s t u
  pub ages : (t u : ℕ) → waits_for s t u ≡ true → (age_in b t ≡ age_of s t) × (age_in b u ≡ age_of s u)

-- the last snapshot of the list shows them
abbrev pub EndsWithWaits : State → List Board → Type 0
EndsWithWaits s list = (board : Board) × Ends list board × ShowsWaits s board
