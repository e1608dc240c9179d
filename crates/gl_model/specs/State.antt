-- The state of the model: grants, a queue for each node, and the transactions by slot; grants from the front, cycles and victims.
use Rattle.std.specs.Prelude.{ℕ, Bool, false, ◌&&◌, ◌==◌, List, [], Option, Some, None, if◌then◌else◌, true, ◌||◌, ◌∷◌, length, drop, ◌≡◌, zero, suc, not}
use Rattle.std.specs.List.{range_with_len, list_any, list_all}
use Rattle.gl_modes.specs.declared.mode.Mode.{Mode}
use Rattle.gl_modes.specs.declared.node.NodeId.{NodeId}
use Rattle.gl_modes.specs.declared.mode.Mode.TheVariants.{NL, IS, IX}
use Rattle.gl_modes.specs.Nodes.{same_node}
use Rattle.gl_modes.specs.Modes.{is_at_least, are_compatible}
use Rattle.gl_graph.specs.Graph.{Graph, parents_of}
use Rattle.gl_header.specs.Header.{Members, Waiter, after_grants, front, is_among_waiters, without_waiter, is_ahead}
use Rattle.gl_waits.specs.declared.victims.Victims.{Victims}
use Rattle.gl_waits.specs.declared.victims.Victims.TheVariants.{Youngest}
use Rattle.gl_waits.specs.Victims.{IsCandidate}
use Rattle.gl_waits.specs.Waits.{IsLatest, IsOnNoCycle}
use Rattle.gl_model.specs.declared.txn.TxnId.{TxnId}
use Rattle.gl_model.specs.declared.txn.Status.{Status}
use Rattle.gl_model.specs.declared.answers.Detect.{Detect}
use Rattle.gl_model.specs.declared.txn.Status.TheVariants.{Active, Waiting, Condemned}

-- a living transaction: its age (above all that were given before), its `since` (its age, or a number from an earlier begin of its work), and its status
pub record Txn : Type 0 where
  pub age : ℕ
  pub since : ℕ
  pub status : Status

-- the whole state: without headers and lists of locks, since both can be read from the grants
pub record State : Type 0 where
  pub graph : Graph
  pub txns : ℕ → Option Txn  -- by slot
  pub held : ℕ → NodeId → Mode  -- by slot and node, NL for no grant
  pub queue : NodeId → List Waiter  -- slots with wanted modes
  pub detect : Detect
  pub victims : Victims  -- how victims are chosen
  pub most : ℕ  -- how many transactions may live at once
  pub begins : ℕ  -- the last age that was given
  pub accepted : ℕ

-- the mode of each slot on one node
abbrev pub members : State → NodeId → Members
members s n = λ t. s.held t n

-- the slots that transactions may have
abbrev pub slots : State → List ℕ
slots s = range_with_len 0 s.most

-- the slot has a transaction of this age
abbrev pub live_by : ℕ → Option Txn → Bool
live_by age None = false
live_by age (Some x) = x.age == age

-- the name is of a living transaction: slot and age agree
abbrev pub lives : State → TxnId → Bool
lives s t = live_by t.age (s.txns t.slot)

-- the status in a slot, if it is not free
abbrev pub status_in : Option Txn → Option Status
status_in None = None
status_in (Some x) = Some x.status

-- the status of the transaction in a slot
abbrev pub status_of : State → ℕ → Option Status
status_of s t = status_in (s.txns t)

-- the age in a slot, 0 for a free one
abbrev pub age_in : Option Txn → ℕ
age_in None = 0
age_in (Some x) = x.age

-- the age of the transaction in a slot, 0 for a free slot
abbrev pub age_of : State → ℕ → ℕ
age_of s t = age_in (s.txns t)

-- the `since` in a slot, 0 for a free one
abbrev pub since_in : Option Txn → ℕ
since_in None = 0
since_in (Some x) = x.since

-- the `since` of the transaction in a slot, 0 for a free slot
abbrev pub since_of : State → ℕ → ℕ
since_of s t = since_in (s.txns t)

-- the state with another transaction, or none, in one slot
abbrev pub with_txn : State → ℕ → Option Txn → State
with_txn s t x = record s { txns = λ u. if u == t then x else s.txns u }

-- the transaction with another status
abbrev pub restatus : Status → Option Txn → Option Txn
restatus st None = None
restatus st (Some x) = Some (record x { status = st })

-- the state with another status for one slot
abbrev pub with_status : State → ℕ → Status → State
with_status s t st = with_txn s t (restatus st (s.txns t))

-- the state with another mode for one slot on one node
abbrev pub with_grant : State → ℕ → NodeId → Mode → State
with_grant s t n m = record s { held = λ u q. if (u == t) && same_node q n then m else s.held u q }

-- the state with another queue on one node
abbrev pub with_queue : State → NodeId → List Waiter → State
with_queue s n ws = record s { queue = λ q. if same_node q n then ws else s.queue q }

-- the state with another graph
abbrev pub with_graph : State → Graph → State
with_graph s g = record s { graph = g }

-- the state with another choice of victims
abbrev pub choosing : Victims → State → State
choosing c s = record s { victims = c }

-- the state with other limits of its graph: of the nodes that may live at once, and of the bounds of an index
abbrev pub with_limits : ℕ → ℕ → State → State
with_limits nodes bounds s = record s { graph = record s.graph { most = nodes; most_bounds = bounds } }

-- the state with this count of accepted commands
abbrev pub counting : ℕ → State → State
counting k s = record s { accepted = k }

-- no node (at most 65,536 at once, and 256 bounds for an index), no transaction, nothing counted; victims are chosen by `Youngest`
abbrev pub empty_state : Detect → ℕ → State
empty_state detect most =
    record {
      graph = record { at = λ _. None; births = 0; most = 65536; most_bounds = 256 };
      txns = λ _. None;
      held = λ _ _. NL;
      queue = λ _. [];
      detect = detect;
      victims = Youngest;
      most = most;
      begins = 0;
      accepted = 0;
    }

-- The rule of the lock graph, tested on held locks alone.

-- a mode that may write here or further down: IX, SIX or X
abbrev pub is_write : Mode → Bool
is_write m = is_at_least m IX

-- a node with these parents is a root
abbrev pub no_parents : List NodeId → Bool
no_parents [] = true
no_parents (p ∷ ps) = false

-- the rule of the lock graph, for a mode on a node with these parents: to write, IX or greater on every one; to read, IS or greater on one; nothing for a root
abbrev pub intends_over : (NodeId → Mode) → List NodeId → Mode → Bool
intends_over held ps m =
    if is_write m
    then list_all (λ p. is_at_least (held p) IX) ps
    else no_parents ps || list_any (λ p. is_at_least (held p) IS) ps

-- the rule for a slot, a node and a wanted mode
abbrev pub intends : State → ℕ → NodeId → Mode → Bool
intends s t n m = intends_over (s.held t) (parents_of s.graph n) m

-- Grants from the front of queues, and removed waits.

-- the waiters of a node that can be granted from the front of its queue
abbrev pub front_at : State → NodeId → List Waiter
front_at s n = front s.most (members s n) (s.queue n)

-- a waiter that is granted somewhere is active again
abbrev pub awake : (NodeId → List Waiter) → ℕ → Status → Status
awake granted t Active = Active
awake granted t (Waiting n m) = if is_among_waiters t (granted n) then Active else Waiting n m
awake granted t Condemned = Condemned

-- the same in a slot
abbrev pub woken : (NodeId → List Waiter) → ℕ → Option Txn → Option Txn
woken granted t None = None
woken granted t (Some x) = Some (record x { status = awake granted t x.status })

-- what is granted on a node, if it is one of the chosen
abbrev pub granted_at : State → (NodeId → Bool) → NodeId → List Waiter
granted_at s chosen n = if chosen n then front_at s n else []

-- the waiters of every chosen node are granted from the front, all at once, so that no order of visits matters
abbrev pub pumped : State → (NodeId → Bool) → State
pumped s chosen =
    record s {
      held = λ t n. after_grants (members s n) (granted_at s chosen n) t;
      queue = λ n. drop (length (granted_at s chosen n)) (s.queue n);
      txns = λ t. woken (granted_at s chosen) t (s.txns t);
    }

-- t's wait is removed from its queue, and t has this status
abbrev pub without_wait : State → ℕ → Status → State
without_wait s t st = with_status (record s { queue = λ n. without_waiter t (s.queue n) }) t st

-- the wait is on this node
abbrev pub waits_at : Option Status → NodeId → Bool
waits_at (Some (Waiting n m)) q = same_node n q
waits_at o q = false

-- t waits on n
abbrev pub is_waiting_at : State → ℕ → NodeId → Bool
is_waiting_at s t n = waits_at (status_of s t) n

-- t is condemned: its wait is removed, and that node's waiters are granted from the front; its locks stay
abbrev pub condemned : State → ℕ → State
condemned s t = pumped (without_wait s t Condemned) (is_waiting_at s t)

-- Who waits for whom, cycles, and victims.

-- what a wait is for: u holds the node in a mode incompatible with the wanted one, or is ahead in its queue
abbrev pub blocks : State → ℕ → ℕ → Option Status → Bool
blocks s t u (Some (Waiting n m)) = not (are_compatible m (s.held u n)) || is_ahead (s.queue n) t u
blocks s t u o = false

-- t waits for u
abbrev pub waits_for : State → ℕ → ℕ → Bool
waits_for s t u = not (t == u) && blocks s t u (status_of s t)

-- by the choice c of victims, v is condemned for t: the candidate with the greatest `since`, of several the youngest
abbrev pub IsVictim : Victims → State → ℕ → ℕ → Type 0
IsVictim c s t v = IsLatest (IsCandidate c (waits_for s) t) (since_of s) (age_of s) v

-- t is settled in this many turns: while t is on a cycle, a victim is condemned
abbrev pub SettledWithin : Victims → ℕ → State → ℕ → State → Type 0
SettledWithin c zero s t s' = IsOnNoCycle (waits_for s) t × (s' ≡ s)
SettledWithin c (suc k) s t s' = (v : ℕ) × IsVictim c s t v × SettledWithin c k (condemned s v) t s'

-- t is settled, in however many turns
abbrev pub Settled : Victims → State → ℕ → State → Type 0
Settled c s t s' = (k : ℕ) × SettledWithin c k s t s'

-- nobody waits, over one or more steps, for itself
abbrev pub HasNoCycle : State → Type 0
HasNoCycle s = (t : ℕ) → IsOnNoCycle (waits_for s) t

-- the status is that of a wait
abbrev pub is_wait : Option Status → Bool
is_wait (Some (Waiting n m)) = true
is_wait o = false
