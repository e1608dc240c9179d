-- Paths: locks on a node with those that the rule of the graph needs above it.
use Rattle.std.specs.Prelude.{◌≡◌, ℕ, zero, suc, Bool, true, false, not, ◌&&◌, List, [], ◌∷◌, Option, Some, None, Result, IfOk, if◌then◌else◌, length}
use Rattle.std.specs.Prelude.{◌==◌, ◌++◌}
use Rattle.gl_modes.specs.declared.mode.Mode.{Mode}
use Rattle.gl_modes.specs.declared.mode.Mode.TheVariants.{IS, IX}
use Rattle.gl_modes.specs.declared.node.NodeId.{NodeId}
use Rattle.gl_modes.specs.declared.refusal.Refusal.{Refusal}
use Rattle.gl_modes.specs.declared.refusal.Refusal.TheVariants as no
use Rattle.gl_modes.specs.Nodes.{same_node}
use Rattle.gl_model.specs.declared.txn.TxnId.{TxnId}
use Rattle.gl_model.specs.Calls.{active_on, bad_mode}
use Rattle.gl_model.specs.Lawful.{EffS, SameBelow}
use Rattle.gl_model.specs.State.{State, is_write, lives}
use Rattle.gl_model.specs.Tellings.{Told}
use Rattle.gl_steps.specs.declared.command.Command.{Command}
use Rattle.gl_steps.specs.declared.command.Command.TheVariants as command
use Rattle.gl_catalog.specs.declared.manager.paths.Reached.{Reached}
use Rattle.gl_catalog.specs.Completes.{Completes}
use Rattle.gl_catalog.specs.Counters.{grants, refuses}
use Rattle.gl_catalog.specs.Manager.{ManagerView, state_of}
use Rattle.gl_steps.specs.Promises.{KeepsEffects, same_txn, told_granted}
use Rattle.gl_catalog.specs.Replies.{Says, asking, said}
use Rattle.gl_steps.specs.Step.{Step}
use Rattle.gl_steps.specs.Tests.{refusal_of, worn}

-- a node and the requested mode
abbrev pub Ask : Type 0
Ask = NodeId × Mode

-- the intention that a mode needs on parents: IX to write, IS to read
abbrev pub intention : Mode → Mode
intention m = if is_write m then IX else IS

-- the lock command of a request
abbrev pub lock_of : TxnId → Ask → Command
lock_of t ask = command.Lock t ask.0 ask.1

-- the parent for lack of which a lock is refused
abbrev pub missing_parent : Refusal → Option NodeId
missing_parent (no.NeedParents p) = Some p
missing_parent r = None

-- the same for a lock that may be refused
abbrev pub parent_missed : Option Refusal → Option NodeId
parent_missed (Some r) = missing_parent r
parent_missed None = None

-- the parent that a request needs first: the one for lack of which its lock is refused
abbrev pub parent_wanted : State → TxnId → Ask → Option NodeId
parent_wanted s t ask = parent_missed (refusal_of s (lock_of t ask))

-- from one request up to another: each next one is the intention on the parent that the one before needs
abbrev pub ClimbsTo : State → TxnId → Ask → List NodeId → Ask → Type 0
ClimbsTo s t ask [] top = top ≡ ask
ClimbsTo s t ask (p ∷ path) top = (parent_wanted s t ask ≡ Some p) × ClimbsTo s t (p, intention ask.1) path top

-- the first request on the path to another: the climb to it ends there, since it needs no parent
pub record ComesFirst (s : State) (t : TxnId) (ask first : Ask) : Type 0 where
  pub climb : (path : List NodeId) × ClimbsTo s t ask path first
  pub top : parent_wanted s t first ≡ None

-- one request of a path: the first one in this state, and a step; refused, it changes nothing
pub record AsksFirst (t : TxnId) (ask : Ask) (m : ManagerView) (first : Ask) (r : Says) (m' : ManagerView) : Type 0 where
  pub comes_first : ComesFirst (state_of m) t ask first
  pub step : Step (state_of m) (lock_of t first) r.0 r.1 (state_of m')
  pub completes : refuses r.0 ≡ false → Completes (lock_of t first) m r m'
  pub unchanged : refuses r.0 ≡ true → m' ≡ m

-- after a request a path to this node continues: it was granted above the node, and told nobody
abbrev pub goes_on : NodeId → NodeId → Says → Bool
goes_on node asked r = grants r.0 && (length r.1 == 0) && not (same_node asked node)

-- a path with so many requests after which it continues, and its last one
abbrev pub IsPath : ℕ → TxnId → Ask → ManagerView → Ask → Says → ManagerView → Type 0
IsPath zero t ask m last r m' = AsksFirst t ask m last r m' × (goes_on ask.0 last.0 r ≡ false)
IsPath (suc k) t ask m last r m' =
    (first : Ask) × (granted : Says) × (mid : ManagerView) × AsksFirst t ask m first granted mid × (goes_on ask.0 first.0 granted ≡ true)
    × IsPath k t ask mid last r m'

-- the answer to a path's last request, and the notices
abbrev pub reaching : Told → Reached → Says
reaching told x = asking told x.locked

-- a call that makes the first request of a path
abbrev pub AsksOnce : TxnId → Ask → ManagerView → Told → Result Reached Refusal → ManagerView → Type 0
AsksOnce t ask m told result m' = (first : Ask) × AsksFirst t ask m first (said (reaching told) result) m' × IfOk result (λ x. x.node ≡ first.0)

-- a call that makes the requests of a path to its end
abbrev pub LocksPath : TxnId → Ask → ManagerView → Told → Result Reached Refusal → ManagerView → Type 0
LocksPath t ask m told result m' = (k : ℕ) × (last : Ask) × IsPath k t ask m last (said (reaching told) result) m' × IfOk result (λ x. x.node ≡ last.0)

-- what a path with this last reply leaves a transaction: its effective modes, and the records below what it reads
pub record PathLeaves (s : State) (r : Says) (s' : State) (t : TxnId) : Type 0 where
  pub effects : KeepsEffects s s' t (told_granted t (r ∷ []))
  pub below : (n : NodeId) → EffS s t.slot n → SameBelow s.graph s'.graph n

-- it leaves that to all living transactions but its own
abbrev pub LeavesAllBut : TxnId → State → Says → State → Type 0
LeavesAllBut t s r s' = (u : TxnId) → lives s u ≡ true → same_txn u t ≡ false → PathLeaves s r s' u

-- the next request: for the last of the nodes above that a path keeps, or for its own node
abbrev pub next_ask : Ask → List NodeId → Ask
next_ask ask [] = ask
next_ask ask (p ∷ ps) = next_ask (p, intention ask.1) ps

-- from one request up to another, in a step at least
abbrev pub ClimbsUp : State → TxnId → Ask → Ask → Type 0
ClimbsUp s t ask top = (p : NodeId) × (path : List NodeId) × ClimbsTo s t ask (p ∷ path) top

-- nodes above a request, upwards: each is climbed up to from the one before
abbrev pub IsPathUp : State → TxnId → Ask → List NodeId → Type 0
IsPathUp s t ask [] = Unit {0}
IsPathUp s t ask (p ∷ ps) = ClimbsUp s t ask (p, intention ask.1) × IsPathUp s t (p, intention ask.1) ps

-- the nodes that a path keeps are such nodes, if a command can still be counted
abbrev pub KeepsPath : State → TxnId → Ask → List NodeId → Type 0
KeepsPath s t ask above = worn s ≡ None → IsPathUp s t ask above

-- and so are, to write, those below the last
abbrev pub KeepsBelow : State → TxnId → Ask → List NodeId → Type 0
KeepsBelow s t ask above = (below : List NodeId) (last : NodeId) → above ≡ below ++ last ∷ [] → is_write ask.1 ≡ true → KeepsPath s t ask below

-- the tests of a lock without those of parents
abbrev pub path_tests : State → TxnId → NodeId → Mode → List (Option Refusal)
path_tests s t n m = worn s ∷ active_on s t (n ∷ []) ++ bad_mode s n m ∷ []
