-- A main manager that leads parts: the marks of the parts, and the law by which all of them work as one.
use Rattle.std.specs.Prelude.{◌≡◌, ℕ, Bool, true, false, not, ◌&&◌, ◌||◌, List, [], ◌∷◌, Option, Some, None, map}
use Rattle.std.specs.List.{list_any}
use Rattle.gl_modes.specs.declared.node.NodeId.{NodeId}
use Rattle.gl_modes.specs.Modes.{is_at_least}
use Rattle.gl_graph.specs.Graph.{Graph, is_live}
use Rattle.gl_header.specs.Header.{Waiter, is_waiter}
use Rattle.gl_model.specs.Lawful.{IsLawful}
use Rattle.gl_model.specs.State.{status_of}
use Rattle.gl_model.specs.declared.txn.Status.{Status}
use Rattle.gl_model.specs.declared.txn.Status.TheVariants.{Active}
use Rattle.gl_parts.specs.Whole.{Each, HasParentsOf, IsInOne, Part, held_at, is_in, is_intention}

-- a part, and the nodes for which it is marked: what it has on them was copied to the main manager
pub record Follower : Type 0 where
  pub part : Part
  pub marked : NodeId → Bool

-- the graph of the whole, the main manager, and the parts
pub record Managers : Type 0 where
  pub graph : Graph
  pub main : Part
  pub followers : List Follower

-- the parts, without their marks
abbrev pub parts : List Follower → List Part
parts fs = map (λ f. f.part) fs

-- all managers
abbrev pub managers : Managers → List Part
managers w = w.main ∷ parts w.followers

-- the queue of the node with this name, empty if there is none
abbrev pub queue_by_name : (NodeId → List Waiter) → Option NodeId → List Waiter
queue_by_name queue None = []
queue_by_name queue (Some n) = queue n

-- the queue of n in the part
abbrev pub queue_at : Part → NodeId → List Waiter
queue_at p n = queue_by_name p.state.queue (p.name n)

-- t waits on n in the part for more than an intention
abbrev pub wants_more : Part → ℕ → NodeId → Bool
wants_more p t n = list_any (λ w. is_waiter t w && not (is_intention w.1)) (queue_at p n)

-- t has more than an intention on n in the part, or waits there for it
abbrev pub has_more : Part → ℕ → NodeId → Bool
has_more p t n = not (is_intention (held_at p t n)) || wants_more p t n

-- t holds on n in the first manager what it holds in the second, or more
abbrev pub covers : Part → Part → ℕ → NodeId → Bool
covers p q t n = is_at_least (held_at p t n) (held_at q t n)

-- the part has intentions alone on n, and nobody waits there for it; if it is marked for n, everybody holds in the main manager what it holds in the part
pub record ObeysOn (main : Part) (f : Follower) (n : NodeId) : Type 0 where
  pub intentions : (t : ℕ) → is_intention (held_at f.part t n) ≡ true
  pub queueless : queue_at f.part n ≡ []
  pub led : f.marked n ≡ true → (t : ℕ) → covers main f.part t n ≡ true

-- so on each node that the main manager has too
abbrev pub Obeys : Part → Follower → Type 0
Obeys main f = (n : NodeId) → is_in n main ≡ true → ObeysOn main f n

-- the part is marked for each of its nodes on which somebody has more than an intention in the main manager, or waits there for it
abbrev pub IsMarked : Part → Follower → Type 0
IsMarked main f = (n : NodeId) (t : ℕ) → has_more main t n ≡ true → is_in n f.part ≡ true → f.marked n ≡ true

-- the main manager has each node that is in several; each part obeys it there, and is marked where it must
pub record Leads (main : Part) (fs : List Follower) : Type 0 where
  pub apart : (n : NodeId) → is_in n main ≡ false → IsInOne n (parts fs)
  pub obey : Each (Obeys main) fs
  pub marked : Each (IsMarked main) fs

-- the manager agrees with the graph of the whole: its nodes have the parents that they have there, and their names are of living nodes
pub record AgreesWith (g : Graph) (p : Part) : Type 0 where
  pub parents : HasParentsOf g p
  pub living : (n m : NodeId) → p.name n ≡ Some m → is_live p.state.graph m ≡ true

-- lawful managers that agree with the graph of the whole, of which the main one leads the others
pub record WorkAsOne (w : Managers) : Type 0 where
  pub leads : Leads w.main w.followers
  pub lawful : Each (λ p. IsLawful p.state) (managers w)
  pub agree : Each (AgreesWith w.graph) (managers w)

-- others can acquire locks for the transaction in the slot: it is active, or there is none yet, and it can join; it neither waits nor is condemned
abbrev pub is_ready : Option Status → Bool
is_ready None = true
is_ready (Some Active) = true
is_ready o = false

-- what is in the part alone can be copied: who has something there that it has not in the main manager is ready there
abbrev pub CanCopy : Part → Follower → Type 0
CanCopy main f = (n : NodeId) (t : ℕ) → is_in n main ≡ true → covers main f.part t n ≡ false → is_ready (status_of main.state t) ≡ true
