-- Tries: paths whose locks are granted at once, or refused.
use Rattle.gl_slots.specs.declared.slots.Slots.{Slots}
use Rattle.std.specs.Prelude.{◌≡◌, ◌≢◌, ◌⊎◌, ℕ, zero, suc, ◌<◌, ◌==◌, ◌&&◌, not, Bool, true, false, List, [], ◌∷◌, ◌++◌, length, Option, None, Some}
use Rattle.std.specs.Prelude.{Result, Ok, Err, IfErr, OnErr, OnOk}
use Rattle.gl_modes.specs.declared.mode.Mode.{Mode}
use Rattle.gl_modes.specs.declared.node.NodeId.{NodeId}
use Rattle.gl_modes.specs.declared.refusal.Refusal.{Refusal}
use Rattle.gl_modes.specs.declared.refusal.Refusal.TheVariants as no
use Rattle.gl_modes.specs.Modes.{is_at_least}
use Rattle.gl_modes.specs.Nodes.{same_node}
use Rattle.gl_model.specs.declared.txn.TxnId.{TxnId}
use Rattle.gl_model.specs.State.{State}
use Rattle.gl_model.specs.Tellings.{Told}
use Rattle.gl_steps.specs.declared.command.Answer.{Answer}
use Rattle.gl_steps.specs.declared.command.Answer.TheVariants as answer
use Rattle.gl_steps.specs.declared.command.Command.{Command}
use Rattle.gl_steps.specs.declared.command.Command.TheVariants as command
use Rattle.gl_steps.specs.Step.{Step}
use Rattle.gl_table.specs.Table.{rows_of}
use Rattle.gl_catalog.specs.Counters.{grants, refuses}
use Rattle.gl_catalog.specs.Manager.{ManagerView, state_of}
use Rattle.gl_catalog.specs.Paths.{Ask, ComesFirst, missing_parent}
use Rattle.gl_catalog.specs.Replies.{said, took}
use Rattle.gl_rows.specs.Releasing.{GoesBackTo}
use Rattle.gl_waiting.specs.declared.tries.Keep.{Keep}
use Rattle.gl_waiting.specs.declared.tries.Keep.TheVariants as keep
use Rattle.gl_waiting.specs.declared.tries.Tried.{Tried}
use Rattle.gl_waiting.specs.declared.tries.Tried.TheVariants as tried
use Rattle.gl_waiting.specs.Delivering.{ComesToNothing, Delivered, DeliveryView, unlocking}

-- the try that an ask is
abbrev pub try_of : TxnId → Ask → Command
try_of t ask = command.Try t ask.0 ask.1

-- a try is answered by a grant or a refusal
abbrev pub AnswersTry : Option Answer → Type 0
AnswersTry (Some (answer.Granted m)) = Unit {0}
AnswersTry (Some (answer.Refused r)) = Unit {0}
AnswersTry o = ⊥

-- what a try of a node came to
abbrev pub tried_as : NodeId → Result Mode Refusal → Tried
tried_as n (Ok m) = tried.Granted m
tried_as n (Err no.WouldBlock) = tried.WouldBlock n
tried_as n (Err r) = tried.Refused r

-- the parent for lack of which a try was refused
abbrev pub parent_missing : Result Mode Refusal → Option NodeId
parent_missing (Ok m) = None
parent_missing (Err r) = missing_parent r

-- one try of a path: it comes first in the state that it finds, and is a step that tells nobody; refused, it changes nothing
pub record TriesFirst (t : TxnId) (ask : Ask) (m : ManagerView) (first : Ask) (a : Answer) (m' : ManagerView) : Type 0 where
  pub comes_first : ComesFirst (state_of m) t ask first
  pub step : Step (state_of m) (try_of t first) a [] (state_of m')
  pub unchanged : refuses a ≡ true → m' ≡ m

-- after such a try a path to this node goes on: a node above it was granted
abbrev pub climbs_down : NodeId → NodeId → Answer → Bool
climbs_down node asked a = grants a && not (same_node asked node)

-- a path of so many grants above its node, and its last try
abbrev pub TriesUp : ℕ → TxnId → Ask → ManagerView → Ask → Answer → ManagerView → Type 0
TriesUp zero t ask m last a m' = TriesFirst t ask m last a m' × (climbs_down ask.0 last.0 a ≡ false)
TriesUp (suc k) t ask m last a m' =
    (first : Ask) × (granted : Answer) × (mid : ManagerView) × TriesFirst t ask m first granted mid × (climbs_down ask.0 first.0 granted ≡ true)
    × TriesUp k t ask mid last a m'

-- the answer to the last try of a path that came to this
abbrev pub last_answer : Tried → Answer
last_answer (tried.Granted m) = answer.Granted m
last_answer (tried.WouldBlock n) = answer.Refused no.WouldBlock
last_answer (tried.Refused r) = answer.Refused r

-- a node that would block is named, and no other refusal says that one would, or that a parent is missing
abbrev pub NamesLast : Tried → Ask → Type 0
NamesLast (tried.Granted m) last = Unit {0}
NamesLast (tried.WouldBlock n) last = n ≡ last.0
NamesLast (tried.Refused r) last = (r ≢ no.WouldBlock) × (missing_parent r ≡ None)

-- the tries of a path, and what they came to
abbrev pub TriesPath : TxnId → Ask → ManagerView → Tried → ManagerView → Type 0
TriesPath t ask m came m' = (k : ℕ) × (last : Ask) × TriesUp k t ask m last (last_answer came) m' × NamesLast came last

-- if it was granted, it was of this node
abbrev pub GrantedAt : NodeId → Result Mode Refusal → Ask → Type 0
GrantedAt n (Ok m) first = n ≡ first.0
GrantedAt n (Err r) first = Unit {0}

-- a call that makes the first try of a path
abbrev pub TriesOnce : TxnId → Ask → ManagerView → NodeId → Result Mode Refusal → ManagerView → Type 0
TriesOnce t ask m n result m' =
    (first : Ask) × TriesFirst t ask m first (said took result).0 m' × NamesLast (tried_as n result) first × GrantedAt n result first

-- grants to the transaction of a slot: it holds more, and nothing else changes but the count of commands
pub record OnlyGrants (t : ℕ) (s s' : State) : Type 0 where
  pub graph : s'.graph ≡ s.graph
  pub txns : s'.txns ≡ s.txns
  pub queue : s'.queue ≡ s.queue
  pub others : (u : ℕ) (n : NodeId) → (u == t) ≡ false → s'.held u n ≡ s.held u n
  pub more : (n : NodeId) → is_at_least (s'.held t n) (s.held t n) ≡ true

-- a delivery with this manager in place of its own
abbrev pub HasManager : DeliveryView → ManagerView → DeliveryView → Type 0
HasManager d m d' = d' ≡ record d { manager = m }

-- a refused path that is to keep nothing rolls back
abbrev pub gives_back : Keep → Tried → Bool
gives_back k (tried.Granted m) = false
gives_back keep.Nothing (tried.WouldBlock n) = true
gives_back keep.Nothing (tried.Refused r) = true
gives_back keep.Path (tried.WouldBlock n) = false
gives_back keep.Path (tried.Refused r) = false

-- how many locks a transaction has
abbrev pub lock_count : ManagerView → TxnId → ℕ
lock_count m t = length (rows_of m.table t.slot)

-- a rollback to a mark, which delivers its notices; it is refused only if a command cannot be counted for each lock, and then changes nothing
pub record RollsBack (t : TxnId) (mark : ℕ) (d : DeliveryView) (told : Told) (ended : Slots) (d' : DeliveryView) : Type 0 where
  pub released : Result ℕ Refusal
  pub back : GoesBackTo t mark d.manager d.rows released told d'.manager d'.rows
  pub delivered : OnOk released (Delivered d (unlocking t) told ended d')
  pub refused : OnErr released (ComesToNothing d told ended d')
  pub worn : IfErr released (λ r. r ≡ no.WornOut)

-- what is left of the tries of a path: all of it, or, if it rolls back and something was granted, what the rollback leaves
abbrev pub LeavesTries : Bool → TxnId → ℕ → ℕ → DeliveryView → Told → Slots → DeliveryView → Type 0
LeavesTries false t mark before d told ended d' = ComesToNothing d told ended d'
LeavesTries true t mark before d told ended d' =
    ((d.manager.accepted ≡ before) × ComesToNothing d told ended d') ⊎ ((before < d.manager.accepted) × RollsBack t mark d told ended d')

-- a path is tried
pub record IsTried (k : Keep) (t : TxnId) (ask : Ask) (d : DeliveryView) (came : Tried) (told : Told) (ended : Slots) (d' : DeliveryView) : Type 0 where
  pub mid : ManagerView
  pub path : TriesPath t ask d.manager came mid
  pub grants : OnlyGrants t.slot (state_of d.manager) (state_of mid)
  pub leaves : LeavesTries (gives_back k came) t (lock_count d.manager t) d.manager.accepted (record d { manager = mid }) told ended d'

-- if it was granted, the transaction holds the node as the answer says, in the mode that was asked or a greater one
abbrev pub HoldsAsTried : TxnId → Ask → Tried → State → Type 0
HoldsAsTried t ask (tried.Granted m) s = (s.held t.slot ask.0 ≡ m) × (is_at_least m ask.1 ≡ true)
HoldsAsTried t ask (tried.WouldBlock n) s = Unit {0}
HoldsAsTried t ask (tried.Refused r) s = Unit {0}

-- of the nodes above, a writer leaves out the last, and a reader all
abbrev pub LowersTo : Bool → List NodeId → List NodeId → Type 0
LowersTo true above above' = (above ≡ []) × (above' ≡ []) ⊎ ((last : NodeId) × (above ≡ above' ++ last ∷ []))
LowersTo false above above' = above' ≡ []
