-- What the calls do that release locks or rekey a row: rows that nobody holds any more lose their nodes.
use Rattle.std.specs.Prelude.{◌≡◌, ℕ, Bool, true, false, not, ◌&&◌, ◌||◌, ◌==◌, ◌++◌, List, [], ◌∷◌, Option, Some, None, Result, Ok, Err, map, is_some}
use Rattle.std.specs.Prelude.{unwrap_or, if◌then◌else◌}
use Rattle.std.specs.List.{list_any}
use Rattle.std.specs.Map.{lookup}
use Rattle.gl_modes.specs.declared.node.NodeId.{NodeId}
use Rattle.gl_modes.specs.declared.refusal.Refusal.{Refusal}
use Rattle.gl_graph.specs.Graph.{Graph, is_live}
use Rattle.gl_graph.specs.Refusals.{first_refusal}
use Rattle.gl_slots.specs.Slots.{has_slot}
use Rattle.gl_model.specs.declared.txn.TxnId.{TxnId}
use Rattle.gl_model.specs.State.{State}
use Rattle.gl_model.specs.Tellings.{Told}
use Rattle.gl_steps.specs.declared.command.Command.TheVariants as command
use Rattle.gl_catalog.specs.Keeping.{CompletesKeeping, keeping_tests}
use Rattle.gl_catalog.specs.Manager.{ManagerView, state_of}
use Rattle.gl_catalog.specs.Replies.{doing}
use Rattle.gl_catalog.specs.Savepoints.{TakesBack, back_tests}
use Rattle.gl_steps.specs.Tests.{refusal_of}
use Rattle.gl_rows.specs.declared.answer.RowRefusal.{RowRefusal}
use Rattle.gl_rows.specs.declared.answer.RowRefusal.TheVariants as row_no
use Rattle.gl_rows.specs.declared.row.Row.{Row}
use Rattle.gl_rows.specs.Locking.{Does, IsRefused, LetsGo, Names, Refused, Runs, SameAccount, forgets}
use Rattle.gl_rows.specs.Rows.{RowsView, asked_beside, has_any, has_asked, has_rows, name_of, rows_at, rows_left, same_row}

-- the node, if it lives
abbrev pub living : Graph → Option NodeId → Option NodeId
living g None = None
living g (Some n) = if is_live g n then Some n else None

-- the row is among these
abbrev pub is_among : List Row → Row → Bool
is_among rows q = list_any (same_row q) rows

-- each of these is the node of one of these rows
abbrev pub AreNodesOf : Names → List Row → List NodeId → Type 0
AreNodesOf ns rows [] = Unit {0}
AreNodesOf ns rows (n ∷ gone) = ((q : Row) × (is_among rows q ≡ true) × (lookup (same_row q) ns ≡ Some n)) × AreNodesOf ns rows gone

-- these rows are let go: some of their nodes are forgotten; each of these rows keeps its node if that lives, and then it cannot be forgotten; others keep
-- theirs
pub record LetsEachGo (s : State) (ns : Names) (rows : List Row) (s' : State) (ns' : Names) : Type 0 where
  pub forgotten : (gone : List NodeId) × Runs s (map forgets gone) s' × AreNodesOf ns rows gone
  pub names : (q : Row) → lookup (same_row q) ns' ≡ (if is_among rows q then living s'.graph (lookup (same_row q) ns) else lookup (same_row q) ns)
  pub kept : (q : Row) (n : NodeId) → is_among rows q ≡ true → lookup (same_row q) ns' ≡ Some n → is_some (refusal_of s' (command.Forget n)) ≡ true

-- the node id that names no node
abbrev pub no_node : NodeId
no_node = record { key = 0; birth = 0 }

-- the row's node, or `no_node` if it has none
abbrev pub named_or_none : RowsView → Row → NodeId
named_or_none v row = unwrap_or (name_of v row) no_node

-- the row's node; a row without one is refused if its file is not one of rows
abbrev pub node_or_no : Option NodeId → Bool → Result NodeId RowRefusal
node_or_no (Some n) has = Ok n
node_or_no None has = if has then Ok no_node else Err row_no.NotRows

-- the node that a call about a row uses
abbrev pub node_for : RowsView → Row → Result NodeId RowRefusal
node_for v row = node_or_no (name_of v row) (has_rows v row.file)

-- these rows are let go, and those left. So are the rows of a slot whose transaction has ended: it keeps those that still have a node and that no other slot
-- has. A slot with rows left keeps those that still have a node. Those are now the rows left
pub record LetsLeftGo (m : ManagerView) (v : RowsView) (rows : List Row) (ended : ℕ → Bool) (m' : ManagerView) (v' : RowsView) : Type 0 where
  pub goes : LetsEachGo (state_of m) v.names (rows ++ rows_left v) (state_of m') v'.names
  pub account : SameAccount m m'
  pub files : v'.files ≡ v.files
  pub asked : (w : ℕ) (q : Row) → has_asked v' w q
      ≡ (has_asked v w q && ((not (ended w || has_slot v.left w) || is_some (name_of v' q)) && not (ended w && asked_beside v' w q)))
  pub left : (w : ℕ) → has_slot v'.left w ≡ ((ended w || has_slot v.left w) && has_any v' w)

-- no transaction has ended
abbrev pub no_end : ℕ → Bool
no_end w = false

-- the slot's transaction no longer asks for the row, unless the row kept its node
abbrev pub Unasks : Result (Unit {0}) Refusal → RowsView → RowsView → ℕ → Row → Type 0
Unasks (Ok u) v v' slot row = (w : ℕ) (q : Row) → has_asked v' w q ≡ (has_asked v w q && not ((w == slot) && same_row row q))
Unasks (Err r) v v' slot row = v'.asked ≡ v.asked

-- a row is let go, which its transaction released
pub record LetsOwnGo (m : ManagerView) (v : RowsView) (slot : ℕ) (row : Row) (m' : ManagerView) (v' : RowsView) : Type 0 where
  pub gone : Result (Unit {0}) Refusal
  pub goes : LetsGo (state_of m) v.names row gone (state_of m') v'.names
  pub account : SameAccount m m'
  pub files : v'.files ≡ v.files
  pub asked : Unasks gone v v' slot row
  pub left : v'.left ≡ v.left

-- a row's node is unlocked, and the row is let go, and those left
pub record Unlocks (m : ManagerView) (v : RowsView) (t : TxnId) (row : Row) (n : NodeId) (told : Told) (m' : ManagerView) (v' : RowsView) : Type 0 where
  pub mid : ManagerView
  pub after : ManagerView
  pub rest : RowsView
  pub unlocks : Does m (command.Unlock t n) (doing told tt) mid
  pub own : LetsOwnGo mid v t.slot row after rest
  pub others : LetsLeftGo after rest [] no_end m' v'

-- the same, or a refusal
abbrev pub UnlocksBy : Result NodeId RowRefusal → ManagerView → RowsView → TxnId → Row → Result (Unit {0}) RowRefusal → Told → ManagerView → RowsView → Type 0
UnlocksBy (Err r) m v t row result told m' v' = Refused m v r result told m' v'
UnlocksBy (Ok n) m v t row (Ok u) told m' v' = Unlocks m v t row n told m' v'
UnlocksBy (Ok n) m v t row (Err (row_no.Refused r)) told m' v' = IsRefused m v (command.Unlock t n) r told m' v'
UnlocksBy (Ok n) m v t row (Err row_no.NotRows) told m' v' = ⊥

-- a row is unlocked, or refused
abbrev pub UnlocksRow : ManagerView → RowsView → TxnId → Row → Result (Unit {0}) RowRefusal → Told → ManagerView → RowsView → Type 0
UnlocksRow m v t row result told m' v' = UnlocksBy (node_for v row) m v t row result told m' v'

-- a node gets another key for one index, or that is refused
abbrev pub RekeysBy : Result NodeId RowRefusal → ManagerView → RowsView → TxnId → NodeId → ℕ → Result (Unit {0}) RowRefusal → Told → ManagerView
    → RowsView → Type 0
RekeysBy (Err r) m v t index key result told m' v' = Refused m v r result told m' v'
RekeysBy (Ok n) m v t index key (Ok u) told m' v' = Does m (command.Rekey t n index key) (doing told tt) m' × (v' ≡ v)
RekeysBy (Ok n) m v t index key (Err (row_no.Refused r)) told m' v' = IsRefused m v (command.Rekey t n index key) r told m' v'
RekeysBy (Ok n) m v t index key (Err row_no.NotRows) told m' v' = ⊥

-- a row's node gets another key for one index, or that is refused
abbrev pub RekeysRow : ManagerView → RowsView → TxnId → Row → NodeId → ℕ → Result (Unit {0}) RowRefusal → Told → ManagerView → RowsView → Type 0
RekeysRow m v t row index key result told m' v' = RekeysBy (node_for v row) m v t index key result told m' v'

-- the rows of a slot are let go when its transaction ends
abbrev pub LetsGoAtEnd : ManagerView → RowsView → ℕ → ManagerView → RowsView → Type 0
LetsGoAtEnd m v slot m' v' = LetsLeftGo m v (rows_at v slot) (λ w. w == slot) m' v'

-- so they are while it goes on, and it still asks for them
abbrev pub LetsGoMeanwhile : ManagerView → RowsView → ℕ → ManagerView → RowsView → Type 0
LetsGoMeanwhile m v slot m' v' = LetsLeftGo m v (rows_at v slot) no_end m' v'

-- a transaction rolls back to a mark, and the rows that it asked for are let go
abbrev pub GoesBackTo : TxnId → ℕ → ManagerView → RowsView → Result ℕ Refusal → Told → ManagerView → RowsView → Type 0
GoesBackTo t mark m v (Ok k) told m' v' = (mid : ManagerView) × TakesBack t mark k m told mid × LetsGoMeanwhile mid v t.slot m' v'
GoesBackTo t mark m v (Err r) told m' v' = (first_refusal (back_tests m t mark) ≡ Some r) × Refused {A = ℕ} m v r (Err r) told m' v'

-- a transaction commits, and another begins in its slot that keeps its first locks; the rows that it asked for are let go, as at any end
abbrev pub CommitsAndKeeps : TxnId → ℕ → ℕ → ManagerView → RowsView → Result (Option TxnId) Refusal → Told → ManagerView → RowsView → Type 0
CommitsAndKeeps t keep since m v (Ok next) told m' v' =
    (mid : ManagerView) × CompletesKeeping t keep since m next told mid × LetsGoAtEnd mid v t.slot m' v'
CommitsAndKeeps t keep since m v (Err r) told m' v' =
    (first_refusal (keeping_tests m t keep) ≡ Some r) × Refused {A = Option TxnId} m v r (Err r) told m' v'
