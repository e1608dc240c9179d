-- What a row's lock does, and how rows get and lose their nodes.
use Rattle.std.specs.Prelude.{◌≡◌, ◌≢◌, ◌⊎◌, ◌↔◌, IsTrue, ℕ, ◌-◌, true, false, ◌||◌, ◌&&◌, ◌==◌, nat_lt, List, [], ◌∷◌, Option, Some, None, Result}
use Rattle.std.specs.Prelude.{Ok, Err, cond, map}
use Rattle.std.specs.Map.{lookup}
use denote.Bor.{Bor}
use Rattle.gl_modes.specs.declared.mode.Mode.{Mode}
use Rattle.gl_modes.specs.declared.node.NodeId.{NodeId}
use Rattle.gl_modes.specs.declared.refusal.Refusal.{Refusal}
use Rattle.gl_modes.specs.declared.refusal.Refusal.TheVariants as no
use Rattle.gl_graph.specs.Graph.{is_live, shape_of}
use Rattle.gl_graph.specs.Refusals.{Refuses, first_refusal, max_count, where_true}
use Rattle.gl_graph.specs.Shapes.{keys_in}
use Rattle.gl_model.specs.declared.answers.Locked.TheVariants as locked
use Rattle.gl_model.specs.declared.txn.TxnId.{TxnId}
use Rattle.gl_model.specs.Calls.{is_idle}
use Rattle.gl_model.specs.State.{State}
use Rattle.gl_model.specs.Tellings.{Told}
use Rattle.gl_steps.specs.declared.command.Answer.TheVariants as answer
use Rattle.gl_steps.specs.declared.command.Command.{Command}
use Rattle.gl_steps.specs.declared.command.Command.TheVariants as command
use Rattle.gl_catalog.specs.Adopting.{AdoptsLocked, adopting_tests}
use Rattle.gl_catalog.specs.Completes.{Completes}
use Rattle.gl_catalog.specs.Manager.{ManagerView, state_of}
use Rattle.gl_catalog.specs.Replies.{Says, asking, doing}
use Rattle.gl_steps.specs.Step.{Run, Step}
use Rattle.gl_rows.specs.declared.answer.RowLocked.{RowLocked}
use Rattle.gl_rows.specs.declared.answer.RowRefusal.{RowRefusal}
use Rattle.gl_rows.specs.declared.answer.RowRefusal.TheVariants as row_no
use Rattle.gl_rows.specs.declared.row.Row.{Row}
use Rattle.gl_rows.specs.Rows.{RowsView, has_asked, has_rows, name_of, same_row}

-- a command with its reply
abbrev pub Line : Type 0
Line = Command × Says

-- these commands run, with these replies
abbrev pub Runs : State → List Line → State → Type 0
Runs s lines s' = Run s (map (λ l. l.0) lines) (map (λ l. l.1) lines) s'

-- a refused command with its reply
abbrev pub refuses : Command → Refusal → Line
refuses c r = (c, (answer.Refused r, []))

-- a node is forgotten: the command with its reply
abbrev pub forgets : NodeId → Line
forgets n = (command.Forget n, doing [] tt)

-- rows with their nodes
abbrev pub Names : Type 0
Names = List (Row × NodeId)

-- the row has this node, or none, and all other rows keep theirs
abbrev pub Renames : Names → Names → Row → Option NodeId → Type 0
Renames ns ns' row o = (q : Row) → lookup (same_row q) ns' ≡ cond (same_row row q) o (lookup (same_row q) ns)

-- the row has this node, and the slot's transaction asked for it
pub record Registers (v v' : RowsView) (slot : ℕ) (row : Row) (n : NodeId) : Type 0 where
  pub files : v'.files ≡ v.files
  pub names : Renames v.names v'.names row (Some n)
  pub asked : (u : ℕ) (q : Row) → has_asked v' u q ≡ (has_asked v u q || ((u == slot) && same_row q row))
  pub left : v'.left ≡ v.left

-- one command of the manager: one step, counted, with all that it must keep
pub record Does (m : ManagerView) (c : Command) (r : Says) (m' : ManagerView) : Type 0 where
  pub step : Step (state_of m) c r.0 r.1 (state_of m')
  pub completes : Completes c m r m'

-- the call is refused so: nobody is told, and nothing changes
pub record Refused {A : Type 0} {R : Type 0} (m : ManagerView) (v : RowsView) (r : R) (result : Result A R) (told : Told) (m' : ManagerView)
    (v' : RowsView) : Type 0 where
  pub answer_is : result ≡ Err r
  pub nobody_told : told ≡ []
  pub same_manager : m' ≡ m
  pub same_rows : v' ≡ v

-- the manager refuses this command so: nobody is told, and nothing changes
pub record IsRefused (m : ManagerView) (v : RowsView) (c : Command) (r : Refusal) (told : Told) (m' : ManagerView) (v' : RowsView) : Type 0 where
  pub step : Step (state_of m) c (answer.Refused r) [] (state_of m)
  pub nobody_told : told ≡ []
  pub same_manager : m' ≡ m
  pub same_rows : v' ≡ v

-- the counters and the last deadlock are the same
abbrev pub SameAccount : ManagerView → ManagerView → Type 0
SameAccount m m' = (m'.counters ≡ m.counters) × (m'.table.deadlock ≡ m.table.deadlock)

-- a node is forgotten, if it still lives
abbrev pub ForgetsLiving : State → NodeId → Result (Unit {0}) Refusal → State → Type 0
ForgetsLiving s n (Ok u) s' = Runs s (forgets n ∷ []) s' ⊎ ((is_live s.graph n ≡ false) × (s' ≡ s))
ForgetsLiving s n (Err r) s' = Runs s (refuses (command.Forget n) r ∷ []) s' × (is_live s.graph n ≡ true)

-- the row loses its node, unless that was refused
abbrev pub Unnames : Names → Row → Result (Unit {0}) Refusal → Names → Type 0
Unnames ns row (Ok u) ns' = Renames ns ns' row None
Unnames ns row (Err r) ns' = ns' ≡ ns

-- nothing is done for a row without a node; else the node is forgotten, and the row loses it
abbrev pub LetsGoOf : Option NodeId → State → Names → Row → Result (Unit {0}) Refusal → State → Names → Type 0
LetsGoOf None s ns row result s' ns' = (result ≡ Ok tt) × (s' ≡ s) × (ns' ≡ ns)
LetsGoOf (Some n) s ns row result s' ns' = ForgetsLiving s n result s' × Unnames ns row result ns'

-- a row is let go: it loses its node, or that is refused
abbrev pub LetsGo : State → Names → Row → Result (Unit {0}) Refusal → State → Names → Type 0
LetsGo s ns row result s' ns' = LetsGoOf (lookup (same_row row) ns) s ns row result s' ns'

-- keys, as a command has them
abbrev pub Keys : Type 0
Keys = Bor (List ℕ)

-- a request for a row's lock
pub record Wish : Type 0 where
  pub txn : TxnId
  pub row : Row
  pub keys : Keys
  pub mode : Mode

-- the command that locks the row by this node
abbrev pub locks : Wish → NodeId → Command
locks w n = command.Lock w.txn n w.mode

-- the outcome for a node that was adopted with the given keys
abbrev pub first_locked : NodeId → Mode → RowLocked
first_locked n mode = record { node = n; locked = locked.Granted mode; own_keys = true }

-- the given keys are the node's own
abbrev pub HasKeys : State → NodeId → Keys → Type 0
HasKeys s n keys = keys_in (shape_of s.graph n) ≡ keys.now

-- the row's node is locked, and the answer says whether the given keys are its own; or that lock is refused
abbrev pub LocksNamed : NodeId → ManagerView → RowsView → Wish → Result RowLocked RowRefusal → Told → ManagerView → RowsView → Type 0
LocksNamed n m v w (Ok x) told m' v' =
    Does m (locks w n) (asking told x.locked) m' × (x.node ≡ n) × (IsTrue x.own_keys ↔ HasKeys (state_of m) n w.keys) × Registers v v' w.txn.slot w.row n
LocksNamed n m v w (Err (row_no.Refused r)) told m' v' = IsRefused m v (locks w n) r told m' v'
LocksNamed n m v w (Err row_no.NotRows) told m' v' = ⊥

-- the row gets a node that was adopted and locked, and nobody is told
pub record NamesNew (v : RowsView) (w : Wish) (x : RowLocked) (told : Told) (v' : RowsView) : Type 0 where
  pub answer_is : x ≡ first_locked x.node w.mode
  pub nobody_told : told ≡ []
  pub registers : Registers v v' w.txn.slot w.row x.node

-- these tests or lack of memory refuse the lock so: nobody is told, and nothing changes
pub record NoneNew (tests : List (Option Refusal)) (m : ManagerView) (v : RowsView) (r : Refusal) (told : Told) (m' : ManagerView)
    (v' : RowsView) : Type 0 where
  pub refuses : Refuses {T = NodeId} (first_refusal tests) (Err r)
  pub nobody_told : told ≡ []
  pub same_manager : m' ≡ m
  pub same_rows : v' ≡ v

-- why the row cannot get a new node
abbrev pub wish_tests : ManagerView → Wish → List (Option Refusal)
wish_tests m w = adopting_tests (state_of m) w.txn w.row.file w.keys.now w.mode

-- a row without a node gets one, which is locked
abbrev pub Adopts : ManagerView → RowsView → Wish → Result RowLocked RowRefusal → Told → ManagerView → RowsView → Type 0
Adopts m v w (Ok x) told m' v' = AdoptsLocked m w.txn w.row.file w.keys w.mode x.node m' × NamesNew v w x told v'
Adopts m v w (Err (row_no.Refused r)) told m' v' = NoneNew (wish_tests m w) m v r told m' v'
Adopts m v w (Err row_no.NotRows) told m' v' = ⊥

-- these tests, after the one that three commands can still be counted
abbrev pub renewing_tests : ManagerView → List (Option Refusal) → List (Option Refusal)
renewing_tests m tests = where_true (nat_lt (max_count - 3) m.accepted) no.WornOut ∷ tests

-- a record is adopted and locked, and then another is forgotten
pub record Replaces (m : ManagerView) (t : TxnId) (f : NodeId) (keys : Keys) (mode : Mode) (old new : NodeId) (m' : ManagerView) : Type 0 where
  pub mid : ManagerView
  pub adopts : AdoptsLocked m t f keys mode new mid
  pub forgets : Does mid (command.Forget old) (doing [] tt) m'

-- the same, or a refusal that changes nothing
abbrev pub RenewsNode : ManagerView → TxnId → NodeId → Keys → Mode → NodeId → Result NodeId Refusal → ManagerView → Type 0
RenewsNode m t f keys mode old (Ok n) m' = Replaces m t f keys mode old n m'
RenewsNode m t f keys mode old (Err r) m' =
    Refuses {T = NodeId} (first_refusal (renewing_tests m (adopting_tests (state_of m) t f keys.now mode))) (Err r) × (m' ≡ m)

-- a row whose node nobody holds or waits for gets another
abbrev pub Renews : NodeId → ManagerView → RowsView → Wish → Result RowLocked RowRefusal → Told → ManagerView → RowsView → Type 0
Renews n m v w (Ok x) told m' v' = Replaces m w.txn w.row.file w.keys w.mode n x.node m' × NamesNew v w x told v'
Renews n m v w (Err (row_no.Refused r)) told m' v' = NoneNew (renewing_tests m (wish_tests m w)) m v r told m' v'
Renews n m v w (Err row_no.NotRows) told m' v' = ⊥

-- nobody holds the node or waits for it, and its keys are not the given ones
pub record IsStale (s : State) (n : NodeId) (keys : Keys) : Type 0 where
  pub idle : is_idle s n ≡ true
  pub others : keys_in (shape_of s.graph n) ≢ keys.now

-- a row with a node is locked by it, but gets another if that is stale; a row without one gets a node, if its file is one of rows
abbrev pub LocksBy : Option NodeId → ManagerView → RowsView → Wish → Result RowLocked RowRefusal → Told → ManagerView → RowsView → Type 0
LocksBy (Some n) m v w result told m' v' =
    ((IsStale (state_of m) n w.keys → ⊥) × LocksNamed n m v w result told m' v') ⊎ (IsStale (state_of m) n w.keys × Renews n m v w result told m' v')
LocksBy None m v w result told m' v' =
    ((has_rows v w.row.file ≡ false) × Refused m v row_no.NotRows result told m' v') ⊎ ((has_rows v w.row.file ≡ true) × Adopts m v w result told m' v')

-- a row is locked, or refused for memory
abbrev pub LocksRow : ManagerView → RowsView → Wish → Result RowLocked RowRefusal → Told → ManagerView → RowsView → Type 0
LocksRow m v w result told m' v' = Refused m v (row_no.Refused no.NoMemory) result told m' v' ⊎ LocksBy (name_of v w.row) m v w result told m' v'
