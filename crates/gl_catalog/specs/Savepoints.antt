-- A transaction rolls back to a savepoint: what it has locked since is unlocked.
use Rattle.std.specs.Prelude.{◌≡◌, ℕ, ◌-◌, nat_lt, List, [], ◌∷◌, ◌++◌, length, map, take, Bool, true, false, Option, None, Result}
use Rattle.std.specs.List.{All, list_any}
use Rattle.gl_modes.specs.declared.node.NodeId.{NodeId}
use Rattle.gl_modes.specs.Modes.{is_at_least}
use Rattle.gl_modes.specs.Nodes.{same_node}
use Rattle.gl_modes.specs.declared.refusal.Refusal.{Refusal}
use Rattle.gl_modes.specs.declared.refusal.Refusal.TheVariants as no
use Rattle.gl_graph.specs.Refusals.{first_refusal, max_count, where_true}
use Rattle.gl_model.specs.declared.txn.TxnId.{TxnId}
use Rattle.gl_model.specs.Calls.{GoesBack, commit_tests, holds_child}
use Rattle.gl_header.specs.Header.{holds}
use Rattle.gl_model.specs.Lawful.{IsLawful}
use Rattle.gl_model.specs.State.{State, members}
use Rattle.gl_model.specs.Tellings.{Told, told}
use Rattle.gl_steps.specs.declared.command.Answer.TheVariants as answer
use Rattle.gl_steps.specs.declared.command.Command.TheVariants as command
use Rattle.gl_steps.specs.declared.command.Answer.{Answer}
use Rattle.gl_steps.specs.declared.command.Command.{Command}
use Rattle.gl_steps.specs.Step.{Run, Step}
use Rattle.gl_table.specs.Table.{KeepsOrders, nodes_of, state_of as table_state}
use Rattle.gl_catalog.specs.Counters.{with_notices}
use Rattle.gl_catalog.specs.Manager.{IsLawfulManager, ManagerView, state_of}
use Rattle.gl_catalog.specs.Paths.{Ask, LeavesAllBut, LocksPath}
use Rattle.gl_catalog.specs.declared.manager.paths.Reached.{Reached}
use Rattle.gl_catalog.specs.Replies.{Says, doing}

-- so many more commands cannot be counted
abbrev pub worn_for : State → ℕ → Option Refusal
worn_for s k = where_true (nat_lt (max_count - s.accepted) k) no.WornOut

-- how many locks a transaction has from a mark on
abbrev pub count_since : ManagerView → ℕ → ℕ → ℕ
count_since m t mark = length (nodes_of m.table t) - mark

-- why a rollback is refused: the transaction is not active, or a command cannot be counted for each lock since the mark
abbrev pub back_tests : ManagerView → TxnId → ℕ → List (Option Refusal)
back_tests m t mark = commit_tests (state_of m) t ++ worn_for (state_of m) (count_since m t.slot mark) ∷ []

-- t passes the tests and rolls back to a mark by so many unlocks, which together tell these; they are counted, and leave others what a command of t leaves them
pub record TakesBack (t : TxnId) (mark k : ℕ) (m : ManagerView) (told' : Told) (m' : ManagerView) : Type 0 where
  pub tests : first_refusal (back_tests m t mark) ≡ None
  pub nodes : List NodeId
  pub count : k ≡ length nodes
  pub back : GoesBack (table_state m.table) t.slot mark (nodes_of m.table t.slot) nodes (nodes_of m'.table t.slot) (table_state m'.table)
  pub replies : List Says
  pub run : Run (state_of m) (map (λ n. command.Unlock t n) nodes) replies (state_of m')
  pub done : All (λ (r : Says). r.0 ≡ answer.Done) replies
  pub tells : told' ≡ told (state_of m) (state_of m')
  pub counters : m'.counters ≡ with_notices told' m.counters
  pub deadlock : m'.table.deadlock ≡ m.table.deadlock
  pub others : LeavesAllBut t (state_of m) (doing told' tt) (state_of m')

-- What a savepoint keeps.

-- the slot holds the node or waits for it
abbrev pub has_lock : ManagerView → ℕ → NodeId → Bool
has_lock m t n = list_any (same_node n) (nodes_of m.table t)

-- it is one of the first locks in the slot's list, as many as the mark
abbrev pub is_before : ManagerView → ℕ → ℕ → NodeId → Bool
is_before m t mark n = list_any (same_node n) (take mark (nodes_of m.table t))

-- one manager after the other, each by a call that moves no lock that stays to a later place of its list
abbrev pub InOrder : ManagerView → List ManagerView → Type 0
InOrder m [] = Unit {0}
InOrder m (x ∷ xs) = KeepsOrders m.table x.table × InOrder x xs

-- no node that a slot still holds is held in a lesser mode
pub record KeepsModes (s s' : State) : Type 0 where
  pub no_less : (t : ℕ) (n : NodeId) → holds (members s' n) t ≡ true → is_at_least (s'.held t n) (s.held t n) ≡ true

-- the modes are kept from each of them to the next
abbrev pub WithModes : State → List ManagerView → Type 0
WithModes s [] = Unit {0}
WithModes s (x ∷ xs) = KeepsModes s (state_of x) × WithModes (state_of x) xs

-- the slot holds the node in each of them
abbrev pub HoldsAlong : ℕ → NodeId → List ManagerView → Type 0
HoldsAlong t n [] = Unit {0}
HoldsAlong t n (x ∷ xs) = (holds (members (state_of x) n) t ≡ true) × HoldsAlong t n xs

-- the last of them
abbrev pub last_of : ManagerView → List ManagerView → ManagerView
last_of m [] = m
last_of m (x ∷ xs) = last_of x xs

-- the slot has the lock in each of them
abbrev pub HasAlong : ℕ → NodeId → List ManagerView → Type 0
HasAlong t n [] = Unit {0}
HasAlong t n (x ∷ xs) = (has_lock x t n ≡ true) × HasAlong t n xs

-- along a run, a lock that is before a mark and is never released stays before it
abbrev pub StaysBefore : Type 0
StaysBefore =
    (m : ManagerView) (ms : List ManagerView) (t mark : ℕ) (n : NodeId) → InOrder m ms → is_before m t mark n ≡ true → HasAlong t n ms
    → is_before (last_of m ms) t mark n ≡ true

-- so if the transaction rolls back to a savepoint, it has each lock that it had at the savepoint and has not released since; a held one in its mode
abbrev pub RollbackKeeps : Type 0
RollbackKeeps =
    (m : ManagerView) (ms : List ManagerView) (t : TxnId) (n : NodeId) (k : ℕ) (told : Told) (m' : ManagerView) → InOrder m ms
    → has_lock m t.slot n ≡ true → HasAlong t.slot n ms → IsLawfulManager (last_of m ms) → IsLawfulManager m'
    → TakesBack t (length (nodes_of m.table t.slot)) k (last_of m ms) told m'
    → (has_lock m' t.slot n ≡ true) × ((state_of m').held t.slot n ≡ (state_of (last_of m ms)).held t.slot n)

-- and if it has released none of those, it has of all others only nodes of which it holds a child: all else that it acquired since is released
abbrev pub RollbackReleases : Type 0
RollbackReleases =
    (m : ManagerView) (ms : List ManagerView) (t : TxnId) (n : NodeId) (k : ℕ) (told : Told) (m' : ManagerView) → InOrder m ms → IsLawfulManager m
    → ((q : NodeId) → has_lock m t.slot q ≡ true → HasAlong t.slot q ms)
    → TakesBack t (length (nodes_of m.table t.slot)) k (last_of m ms) told m'
    → has_lock m t.slot n ≡ false → has_lock m' t.slot n ≡ true → holds_child (state_of m') t.slot n ≡ true

-- a path is such a run
abbrev pub PathsInOrder : Type 0
PathsInOrder =
    (t : TxnId) (ask : Ask) (m : ManagerView) (told : Told) (result : Result Reached Refusal) (m' : ManagerView) → LocksPath t ask m told result m'
    → (ms : List ManagerView) × InOrder m ms × (last_of m ms ≡ m')

-- each step keeps modes
abbrev pub StepsKeepModes : Type 0
StepsKeepModes = (s s' : State) (c : Command) (a : Answer) (told : Told) → IsLawful s → Step s c a told s' → KeepsModes s s'

-- along a run, a node that is held throughout is held at the end in at least its first mode
abbrev pub ModesOnlyRise : Type 0
ModesOnlyRise =
    (m : ManagerView) (ms : List ManagerView) (t : ℕ) (n : NodeId) → WithModes (state_of m) ms → HoldsAlong t n ms
    → is_at_least ((state_of (last_of m ms)).held t n) ((state_of m).held t n) ≡ true

-- so after a rollback it holds each lock that it held at the savepoint and ever since in at least its mode then
abbrev pub RollbackKeepsModes : Type 0
RollbackKeepsModes =
    (m : ManagerView) (ms : List ManagerView) (t : TxnId) (n : NodeId) (k : ℕ) (told : Told) (m' : ManagerView) → InOrder m ms
    → WithModes (state_of m) ms → has_lock m t.slot n ≡ true → HasAlong t.slot n ms → HoldsAlong t.slot n ms
    → IsLawfulManager (last_of m ms) → IsLawfulManager m' → TakesBack t (length (nodes_of m.table t.slot)) k (last_of m ms) told m'
    → is_at_least ((state_of m').held t.slot n) ((state_of m).held t.slot n) ≡ true
