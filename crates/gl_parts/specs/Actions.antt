-- What managers that work as one do: steps of a part and of the main manager, visits and clears; and when they may.
use Rattle.std.specs.Prelude.{◌≡◌, ℕ, Bool, true, false, ◌&&◌, ◌==◌, List, [], ◌∷◌, ◌++◌, if◌then◌else◌, ⊤}
use Rattle.std.specs.List.{list_any}
use Rattle.gl_modes.specs.declared.mode.Mode.{Mode}
use Rattle.gl_modes.specs.declared.mode.Mode.TheVariants.{NL}
use Rattle.gl_modes.specs.declared.node.NodeId.{NodeId}
use Rattle.gl_modes.specs.Modes.{is_at_least}
use Rattle.gl_modes.specs.Nodes.{same_node}
use Rattle.gl_model.specs.Calls.{asked_by_escalation}
use Rattle.gl_model.specs.State.{State, age_of, status_of}
use Rattle.gl_model.specs.declared.txn.TxnId.{TxnId}
use Rattle.gl_model.specs.Tellings.{Told}
use Rattle.gl_steps.specs.declared.command.Answer.{Answer}
use Rattle.gl_steps.specs.declared.command.Command.{Command}
use Rattle.gl_steps.specs.declared.command.Command.TheVariants as command
use Rattle.gl_steps.specs.Promises.{names}
use Rattle.gl_steps.specs.Step.{Step}
use Rattle.gl_parts.specs.Whole.{Each, Part, held_at, held_by_name, is_in, is_intention}
use Rattle.gl_parts.specs.Leading.{AgreesWith, Follower, Managers, Obeys, covers, has_more, is_ready, managers, parts}

-- What a command requests.

-- the mode that the command requests for slot u on n: that of a lock or a try, or what an escalation raises n to; NL for no request
abbrev pub requests : State → Command → ℕ → NodeId → Mode
requests s (command.Lock t q m) u n = if (u == t.slot) && same_node n q then m else NL
requests s (command.Try t q m) u n = if (u == t.slot) && same_node n q then m else NL
requests s (command.Escalate t q) u n = if (u == t.slot) && same_node n q then asked_by_escalation s t.slot q else NL
requests s c u n = NL

-- the same on a node of the whole, in a part
abbrev pub requests_at : Part → Command → ℕ → NodeId → Mode
requests_at p c u n = held_by_name (requests p.state c u) (p.name n)

-- on n the command requests in the part intentions alone, and if the part is marked for n, only what its transaction holds in the main manager
pub record MayRequestOn (main : Part) (f : Follower) (c : Command) (n : NodeId) : Type 0 where
  pub intentions : (t : ℕ) → is_intention (requests_at f.part c t n) ≡ true
  pub first : f.marked n ≡ true → (t : ℕ) → is_at_least (held_at main t n) (requests_at f.part c t n) ≡ true

-- so on each node that the main manager has too
abbrev pub MayRequest : Part → Follower → Command → Type 0
MayRequest main f c = (n : NodeId) → is_in n main ≡ true → MayRequestOn main f c n

-- who requests in the part more than it has in the main manager is ready there
abbrev pub AskersAreReady : Part → Follower → Command → Type 0
AskersAreReady main f c =
    (n : NodeId) (t : ℕ) → is_in n main ≡ true → is_at_least (held_at main t n) (requests_at f.part c t n) ≡ false → is_ready (status_of main.state t) ≡ true

-- the command may lower what its transaction holds
abbrev pub releases : Command → Bool
releases (command.Unlock t n) = true
releases (command.Escalate t n) = true
releases (command.Commit t) = true
releases (command.Abort t) = true
releases (command.Delete t r) = true
releases (command.Drop t n) = true
releases (command.Merge t i) = true
releases c = false

-- the command may leave its transaction waiting
abbrev pub may_wait : Command → Bool
may_wait (command.Lock t n m) = true
may_wait c = false

-- the transaction in slot t has this name in the part
abbrev pub txn_at : Part → ℕ → TxnId
txn_at p t = record { slot = t; age = age_of p.state t }

-- the part is marked for each of its nodes on which the command requests more than an intention in the main manager
abbrev pub AreVisited : Part → Command → Follower → Type 0
AreVisited main c f = (n : NodeId) → is_in n f.part ≡ true → (t : ℕ) → is_intention (requests_at main c t n) ≡ false → f.marked n ≡ true

-- after a command that releases, its transaction holds in the main manager what it has in the part, on each node for which that is marked
abbrev pub AreKept : Part → Command → Part → Follower → Type 0
AreKept main c main' f =
    (n : NodeId) (t : ℕ) → is_in n main ≡ true → f.marked n ≡ true → (names (txn_at main t) c && releases c) ≡ true → covers main' f.part t n ≡ true

-- The actions.

-- a step of a manager by this command, which is carried out or refused
pub record Takes (p : Part) (c : Command) (p' : Part) : Type 0 where
  pub answer : Answer
  pub told : Told
  pub step : Step p.state c answer told p'.state

-- the node has the same name in the manager as before, or none as before
abbrev pub KeepsName : NodeId → Part → Part → Type 0
KeepsName n p p' = p'.name n ≡ p.name n

-- one of a list is replaced by another
pub record Replaces {A : Type 0} (xs xs' : List A) (x x' : A) : Type 0 where
  pub before : List A
  pub after : List A
  pub was : xs ≡ before ++ x ∷ after
  pub is : xs' ≡ before ++ x' ∷ after

-- a part takes a step, and obeys the main manager after it too. If the main manager has a node that is new in the part, the part is marked for it, or nobody
-- has more than an intention on it there; if it has not, no other part has it
pub record PartSteps (w w' : Managers) : Type 0 where
  pub now : Follower
  pub next : Part
  pub main : w'.main ≡ w.main
  pub followers : Replaces w.followers w'.followers now (record now { part = next })
  pub by : Command
  pub step : Takes now.part by next
  pub obeys : Obeys w.main (record now { part = next })
  pub shared : (n : NodeId) → is_in n now.part ≡ false → is_in n next ≡ true → (t : ℕ) → has_more w.main t n ≡ true → now.marked n ≡ true
  pub apart : (n : NodeId) → is_in n now.part ≡ false → is_in n next ≡ true → is_in n w.main ≡ false
      → list_any (is_in n) (parts (followers.before ++ followers.after)) ≡ false
  pub agree : Each (AgreesWith w'.graph) (managers w')

-- the main manager takes a step. After it everybody still holds there what it has in parts that are marked. If the command requests more than an intention on a
-- node, all parts that have the node are marked for it. A node whose name changes in the main manager is in no part
pub record MainSteps (w w' : Managers) : Type 0 where
  pub followers : w'.followers ≡ w.followers
  pub by : Command
  pub step : Takes w.main by w'.main
  pub kept : Each (λ f. (n : NodeId) → is_in n w.main ≡ true → f.marked n ≡ true → (t : ℕ) → covers w'.main f.part t n ≡ true) w.followers
  pub visited : Each (AreVisited w.main by) w.followers
  pub names : Each (λ f. (n : NodeId) → is_in n f.part ≡ true → KeepsName n w.main w'.main) w.followers
  pub agree : Each (AgreesWith w'.graph) (managers w')

-- the part with a mark for n, or without
abbrev pub with_mark : Follower → NodeId → Bool → Follower
with_mark f n b = record f { marked = λ q. if same_node q n then b else f.marked q }

-- a part is marked for a node, if everybody holds on it in the main manager what it holds in the part
pub record Visits (w w' : Managers) : Type 0 where
  pub now : Follower
  pub node : NodeId
  pub graph : w'.graph ≡ w.graph
  pub main : w'.main ≡ w.main
  pub followers : Replaces w.followers w'.followers now (with_mark now node true)
  pub copied : (t : ℕ) → covers w.main now.part t node ≡ true

-- a part loses its mark for a node, if nobody has more than an intention on it in the main manager, or waits there for it
pub record Clears (w w' : Managers) : Type 0 where
  pub now : Follower
  pub node : NodeId
  pub graph : w'.graph ≡ w.graph
  pub main : w'.main ≡ w.main
  pub followers : Replaces w.followers w'.followers now (with_mark now node false)
  pub idle : (t : ℕ) → has_more w.main t node ≡ false

-- one action
pub data Acts (w w' : Managers) : Type 0 where
  PartTakes : PartSteps w w' → Acts w w'
  MainTakes : MainSteps w w' → Acts w w'
  Marks : Visits w w' → Acts w w'
  Unmarks : Clears w w' → Acts w w'

-- actions, one after the other, with what each leaves
abbrev pub Runs : Managers → List Managers → Type 0
Runs w [] = ⊤
Runs w (w' ∷ ws) = Acts w w' × Runs w' ws
