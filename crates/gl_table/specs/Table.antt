-- What a contract sees of a table, its state of the model, what holds of every table, and what listings and snapshots have.
use Rattle.gl_slots.specs.Limit.{most_slots}
use Rattle.std.specs.Prelude.{◌≡◌, ℕ, ◌||◌, List, length, Option, Some, None, is_some, slice_get, Bool, [], map, get_or}
use Rattle.std.specs.List.{IsDistinct, All, count_by, list_any, range_with_len}
use Rattle.std.specs.Map.{keys_of, lookup}
use Rattle.std.specs.Option.{option_map_or}
use Rattle.gl_modes.specs.declared.node.NodeId.{NodeId}
use Rattle.gl_modes.specs.Nodes.{same_node}
use Rattle.gl_graph.specs.View.{View, graph_of}
use Rattle.gl_header.specs.Header.{holds, is_ahead}
use Rattle.gl_waits.specs.declared.victims.Victims.{Victims}
use Rattle.gl_waits.specs.declared.board.Board.{Board}
use Rattle.gl_slots.specs.Slots.{bits_of}
use Rattle.gl_model.specs.declared.deadlock.Deadlock.{Deadlock}
use Rattle.gl_model.specs.declared.answers.Detect.{Detect}
use Rattle.gl_lock_lists.specs.declared.list.Entry.{Entry}
use Rattle.gl_table.specs.declared.txn_entry.TxnEntry.{TxnEntry}
use Rattle.gl_model.specs.Calls.{held_children}
use Rattle.gl_header.specs.Headers.{Entries, held_of, queue_of}
use Rattle.gl_lock_lists.specs.Lists.{mode_in}
use Rattle.gl_model.specs.State.{is_waiting_at, State, members, Txn, age_of, empty_state, slots, waits_for}
use Rattle.gl_table.specs.inside.TxnEntries.{txns_of}
use Rattle.gl_table.specs.Orders.{KeepsPlaces}
use Rattle.gl_model.specs.declared.answers.LockRow.{LockRow}
use Rattle.gl_model.specs.declared.txn.Status.{Status}
use Rattle.gl_model.specs.declared.txn.Status.TheVariants.{Waiting}
use Rattle.gl_model.specs.declared.txn.TxnId.{TxnId}
use Rattle.gl_model.specs.declared.answers.Detect.TheVariants.{ByWatcher}

-- a table: graph, headers by node, transactions by slot with their lists, detection, choice of victims, last age, and last deadlock
pub record TableView : Type 0 where
  pub graph : View
  pub headers : Entries
  pub txn_entries : List (Option TxnEntry)
  pub lists : List (List (NodeId × Entry))
  pub detect : Detect
  pub victims : Victims
  pub begins : ℕ
  pub deadlock : Deadlock

-- its state of the model, without headers, lists and last deadlock
abbrev pub state_of : TableView → State
state_of v =
    record {
      graph = graph_of v.graph;
      txns = txns_of v.txn_entries;
      held = held_of v.headers;
      queue = queue_of v.headers;
      detect = v.detect;
      victims = v.victims;
      most = length v.txn_entries;
      begins = v.begins;
      accepted = 0;
    }

-- what the list of a slot says of a node
abbrev pub entry_at : TableView → ℕ → NodeId → Option Entry
entry_at v t n = option_map_or (λ es. lookup (same_node n) es) (slice_get v.lists t) None

-- the lists agree with the state: each has exactly the nodes that its transaction holds or waits for, with the held mode and the exact count of held children
pub record ListsAgree (v : TableView) : Type 0 where
  pub listed : (t : ℕ) (n : NodeId) → is_some (entry_at v t n) ≡ (holds (members (state_of v) n) t || is_waiting_at (state_of v) t n)
  pub modes : (t : ℕ) (n : NodeId) → mode_in (entry_at v t n) ≡ (state_of v).held t n
  pub counts : (t : ℕ) (n : NodeId) (e : Entry) → entry_at v t n ≡ Some e → e.children ≡ held_children (state_of v) t n

-- no node has two headers, and none is twice in a list
pub record StandOnce (v : TableView) : Type 0 where
  pub headers : IsDistinct same_node (keys_of v.headers)
  pub lists : (t : ℕ) (es : List (NodeId × Entry)) → slice_get v.lists t ≡ Some es → IsDistinct same_node (keys_of es)

-- What a listing has: who lives in a slot, and the nodes that a transaction holds or waits for, one by one.

-- the name and the status of the transaction in a slot
abbrev pub named_in : ℕ → Option Txn → Option (TxnId × Status)
named_in t None = None
named_in t (Some x) = Some (record { slot = t; age = x.age }, x.status)

-- the transaction in a slot, and its status
abbrev pub living_in : State → ℕ → Option (TxnId × Status)
living_in s t = named_in t (s.txns t)

-- how many are ahead of a slot in the queue of a node
abbrev pub ahead_of : State → ℕ → NodeId → ℕ
ahead_of s t n = count_by (is_ahead (s.queue n) t) (slots s)

-- the same for the node on which a slot with this status waits, if it does
abbrev pub ahead_in : State → ℕ → Option Status → Option ℕ
ahead_in s t (Some (Waiting n m)) = Some (ahead_of s t n)
ahead_in s t o = None

-- a list's entry of a node, as a row
abbrev pub row_of : NodeId × Entry → LockRow
row_of (n, e) = record { node = n; mode = e.mode; children = e.children }

-- the rows of a slot, in the order of its list
abbrev pub rows_of : TableView → ℕ → List LockRow
rows_of v t = map row_of (get_or v.lists t [])

-- the nodes of a slot, in the order of its list
abbrev pub nodes_of : TableView → ℕ → List NodeId
nodes_of v t = keys_of (get_or v.lists t [])

-- in each transaction's list, no node that stays moves to a later place
pub record KeepsOrders (v v' : TableView) : Type 0 where
  pub each : (t : ℕ) → KeepsPlaces (nodes_of v t) (nodes_of v' t)

-- the row is of this node
abbrev pub is_row_of : NodeId → LockRow → Bool
is_row_of n r = same_node n r.node

-- the rows are the locks of the slot in the model: one for each node that it holds or waits for, with the held mode and the exact count of held children
pub record AreRowsOf (s : State) (t : ℕ) (rows : List LockRow) : Type 0 where
  pub nodes : (n : NodeId) → list_any (is_row_of n) rows ≡ (holds (members s n) t || is_waiting_at s t n)
  pub once : IsDistinct same_node (map (λ (r : LockRow). r.node) rows)
  pub each : All (λ (r : LockRow). (r.mode ≡ s.held t r.node) × (r.children ≡ held_children s t r.node)) rows

-- The waits-for snapshot of a state.

-- the snapshot of this moment: the count of accepted commands, the ages, and a bit for each wait, with a place for each slot whatever the limit is
abbrev pub board_of : State → Board
board_of s =
    record {
      epoch = s.accepted;
      ages = map (age_of s) (range_with_len 0 most_slots);
      rows = map (λ t. bits_of (waits_for s t)) (range_with_len 0 most_slots);
    }

-- what headers and transaction entries show of a state: who lives and waits, who holds what, and the queues
abbrev pub shown : Entries → List (Option TxnEntry) → ℕ → State
shown hs txn_entries epoch =
    record (empty_state ByWatcher (length txn_entries)) { txns = txns_of txn_entries; held = held_of hs; queue = queue_of hs; accepted = epoch }
