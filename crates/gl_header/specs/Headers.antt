-- The headers of all nodes: the holders and the queue of each, and the room.
use Rattle.std.specs.Prelude.{◌≡◌, ℕ, Bool, false, true, List, Option, Some, None, if◌then◌else◌, []}
use Rattle.std.specs.List.{IsDistinct}
use Rattle.std.specs.Map.{keys_of, lookup}
use Rattle.gl_modes.specs.declared.mode.Mode.{Mode}
use Rattle.gl_modes.specs.declared.mode.Mode.TheVariants.{NL}
use Rattle.gl_modes.specs.declared.node.NodeId.{NodeId}
use Rattle.gl_modes.specs.Modes.{supremum}
use Rattle.gl_modes.specs.Nodes.{same_node}
use Rattle.gl_header.specs.Header.{Members, Waiter, holds, placed, with_mode}
use Rattle.gl_header.specs.State.{HeaderState, IsLawfulHeader, is_granted, is_unused, members_of, unused_header}

-- nodes with their headers
abbrev pub Entries : Type 0
Entries = List (NodeId × HeaderState)

-- the nodes with a holder or a waiter and their headers, by increasing key; and the key below which each node has a place
pub record HeadersState : Type 0 where
  pub entries : Entries
  pub room : ℕ

-- the header of a node
abbrev pub header_at : Entries → NodeId → Option HeaderState
header_at hs n = lookup (same_node n) hs

-- a node without header has no members and no waiters
abbrev pub header_or_new : Option HeaderState → HeaderState
header_or_new None = unused_header
header_or_new (Some h) = h

-- the mode in which each slot holds the node
abbrev pub members_at : Entries → NodeId → Members
members_at hs n = members_of (header_or_new (header_at hs n))

-- the mode that a slot holds on a node
abbrev pub held_of : Entries → ℕ → NodeId → Mode
held_of hs t n = members_at hs n t

-- the node's queue
abbrev pub queue_of : Entries → NodeId → List Waiter
queue_of hs n = (header_or_new (header_at hs n)).queue

-- a slot's request for a mode on the node is granted at once
abbrev pub is_granted_at : Entries → ℕ → NodeId → Mode → Bool
is_granted_at hs t n m = is_granted (header_or_new (header_at hs n)) t m

-- this holds if the slot holds the node and its conversion is granted at once
abbrev pub IfRaised : Entries → ℕ → NodeId → Mode → Type 0 → Type 0
IfRaised hs t n m IsSo = holds (members_at hs n) t ≡ true → is_granted_at hs t n m ≡ true → IsSo

-- the supremum of the mode that a slot holds on the node and another
abbrev pub wanted_at : Entries → ℕ → NodeId → Mode → Mode
wanted_at hs t n m = supremum (held_of hs t n) m

-- each header is lawful and has a holder or a waiter
pub record AreHeaders (hs : Entries) : Type 0 where
  pub lawful : (n : NodeId) (h : HeaderState) → header_at hs n ≡ Some h → IsLawfulHeader h
  pub used : (n : NodeId) (h : HeaderState) → header_at hs n ≡ Some h → is_unused h ≡ false

-- no node has two headers
abbrev pub AreDistinct : Entries → Type 0
AreDistinct hs = IsDistinct same_node (keys_of hs)

-- no other node with this node's key has a holder or a waiter
pub record HasItsKey (hs : Entries) (n : NodeId) : Type 0 where
  pub others : (q : NodeId) → same_node q n ≡ false → q.key ≡ n.key → header_at hs q ≡ None

-- at most one node of each key has a holder or a waiter
pub record AreByKey (hs : Entries) : Type 0 where
  pub alone : (n : NodeId) (h : HeaderState) → header_at hs n ≡ Some h → HasItsKey hs n

-- no node with this key has a holder or a waiter
pub record IsFreeKey (hs : Entries) (k : ℕ) : Type 0 where
  pub none : (q : NodeId) → q.key ≡ k → header_at hs q ≡ None

-- the grants with other members on one node
abbrev pub with_members : (ℕ → NodeId → Mode) → NodeId → Members → ℕ → NodeId → Mode
with_members held n ms = λ u q. if same_node q n then ms u else held u q

-- the queues with another on one node
abbrev pub with_waiters : (NodeId → List Waiter) → NodeId → List Waiter → NodeId → List Waiter
with_waiters queue n ws = λ q. if same_node q n then ws else queue q

-- what a request of t for m makes of the grants and the queues
pub record IsAskedAt (hs : Entries) (t : ℕ) (n : NodeId) (m : Mode) (hs' : Entries) : Type 0 where
  pub granted : is_granted_at hs t n m ≡ true
      → (held_of hs' ≡ with_members (held_of hs) n (with_mode (members_at hs n) t (wanted_at hs t n m))) × (queue_of hs' ≡ queue_of hs)
  pub waits : is_granted_at hs t n m ≡ false
      → (held_of hs' ≡ held_of hs) × (queue_of hs' ≡ with_waiters (queue_of hs) n (placed (members_at hs n) (queue_of hs n) t (wanted_at hs t n m)))

-- the slot alone holds the node, in this mode, and nobody waits
pub record IsOneHolder (h : HeaderState) (t : ℕ) (m : Mode) : Type 0 where
  pub lawful : IsLawfulHeader h
  pub members : members_of h ≡ with_mode (λ _. NL) t m
  pub queue : h.queue ≡ []
