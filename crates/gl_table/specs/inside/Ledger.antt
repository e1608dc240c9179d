-- The ledger that the code keeps of a graph's locks: as a state of the model, and what agrees with it.
use Rattle.gl_slots.specs.Limit.{most_slots}
use Rattle.std.specs.Prelude.{◌≡◌, ◌≤◌, ◌||◌, ℕ, Bool, true, false, List, [], length, None, replicate}
use Rattle.gl_modes.specs.declared.mode.Mode.TheVariants.{NL}
use Rattle.gl_modes.specs.declared.node.NodeId.{NodeId}
use Rattle.gl_graph.specs.Graph.{Graph}
use Rattle.gl_graph.specs.View.{View, graph_of}
use Rattle.gl_header.specs.Header.{hinders, holds, is_among_waiters}
use Rattle.gl_waits.specs.declared.victims.Victims.TheVariants.{Youngest}
use Rattle.gl_model.specs.declared.answers.Detect.TheVariants.{ByWatcher}
use Rattle.gl_lock_lists.specs.declared.list.LockList.{LockList}
use Rattle.gl_table.specs.declared.ledger.Ledger.{Ledger}
use Rattle.gl_model.specs.Calls.{held_children}
use Rattle.gl_header.specs.Headers.{Entries, held_of, members_at, queue_of}
use Rattle.gl_model.specs.State.{State, members, status_of, is_wait}
use Rattle.gl_table.specs.inside.TxnEntries.{txns_of}
use Rattle.gl_table.specs.inside.Slots.{KeepsLists, counted_by, held_by, listed_by, room_by}

-- the state of a ledger over a graph
abbrev pub state_on : Graph → Ledger → State
state_on g l =
    record {
      graph = g;
      txns = txns_of l.txn_entries.items;
      held = held_of l.headers.entries;
      queue = queue_of l.headers.entries;
      detect = ByWatcher;
      victims = Youngest;
      most = length l.txn_entries.items;
      begins = 0;
      accepted = 0;
    }

-- the same, with the graph as a contract sees it
abbrev pub state_in : View → Ledger → State
state_in g l = state_on (graph_of g) l

-- a slot holds S or greater on a node, or something while somebody waits for it, by the headers
abbrev pub hinders_by : Entries → ℕ → NodeId → Bool
hinders_by es t n = hinders (members_at es n) (queue_of es n) t

-- a slot's list has the nodes that it holds or waits for, with their modes, and room for a later grant if it waits
pub record Agrees (s : State) (ls : List LockList) (u : ℕ) : Type 0 where
  pub modes : (q : NodeId) → held_by ls u q ≡ s.held u q
  pub listed : (q : NodeId) → listed_by ls u q ≡ (holds (members s q) u || is_among_waiters u (s.queue q))
  pub room : is_wait (status_of s u) ≡ true → 9 ≤ room_by ls u

-- its counts of held children are exact
abbrev pub CountsHeld : State → List LockList → ℕ → Type 0
CountsHeld s ls u = (p : NodeId) → counted_by ls u p ≡ held_children s u p

-- the parts of the ledger are in order
pub record AreSound (l : Ledger) : Type 0 where
  pub few : length l.txn_entries.items ≤ most_slots
  pub lists : length l.lists.items ≡ length l.txn_entries.items

-- the ledger is exact over a graph: its parts are in order, and each list has the modes and the counts of its slot
pub record AreExact (g : View) (l : Ledger) : Type 0 where
  pub sound : AreSound l
  pub agree : (u : ℕ) → Agrees (state_in g l) l.lists.items u
  pub count : (u : ℕ) → CountsHeld (state_in g l) l.lists.items u

-- no lock changed: at most room was made
pub record KeepsLocks (l l' : Ledger) : Type 0 where
  pub headers : l'.headers.entries ≡ l.headers.entries
  pub txn_entries : l'.txn_entries ≡ l.txn_entries
  pub lists : KeepsLists l.lists.items l'.lists.items

-- no header, all slots free, and nothing in any list
pub record AreNew (l : Ledger) (most : ℕ) : Type 0 where
  pub headers : l.headers.entries ≡ []
  pub txn_entries : l.txn_entries.items ≡ replicate most None
  pub lists : length l.lists.items ≡ most
  pub listed : (t : ℕ) (n : NodeId) → listed_by l.lists.items t n ≡ false
  pub modes : (t : ℕ) (n : NodeId) → held_by l.lists.items t n ≡ NL
  pub counts : (t : ℕ) (n : NodeId) → counted_by l.lists.items t n ≡ 0
