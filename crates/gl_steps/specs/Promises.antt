-- What is promised of commands and of whole runs.
use Rattle.std.specs.Prelude.{◌≡◌, ◌⊎◌, ℕ, Bool, true, false, ◌&&◌, ◌==◌, List, [], ◌∷◌, Some}
use Rattle.std.specs.List.{list_any}
use denote.Bor.{Bor}
use Rattle.gl_model.specs.declared.txn.Status.TheVariants.{Waiting}
use Rattle.gl_model.specs.declared.txn.TxnId.{TxnId}
use Rattle.gl_model.specs.declared.answers.Notice.{Notice}
use Rattle.gl_steps.specs.declared.command.Answer.{Answer}
use Rattle.gl_steps.specs.declared.command.Command.{Command}
use Rattle.gl_modes.specs.declared.mode.Mode.{Mode}
use Rattle.gl_modes.specs.declared.node.NodeId.{NodeId}
use Rattle.gl_modes.specs.Nodes.{same_node}
use Rattle.gl_model.specs.declared.answers.Detect.TheVariants.{AtBlock}
use Rattle.gl_model.specs.declared.answers.Notice.TheVariants as notice
use Rattle.gl_steps.specs.declared.command.Answer.TheVariants as answer
use Rattle.gl_steps.specs.declared.command.Command.TheVariants as command
use Rattle.gl_steps.specs.Tests.{refusal_of}
use Rattle.gl_steps.specs.Step.{Goes, Run, Step}
use Rattle.gl_graph.specs.Graph.{Graph, first_parent, is_live, parents_of, shape_of}
use Rattle.gl_graph.specs.Routes.{IsBelow}
use Rattle.gl_graph.specs.Shapes.{is_adopted, is_record_shape, keys_in}
use Rattle.gl_model.specs.Calls.{accepted_once, is_idle}
use Rattle.gl_model.specs.Lawful.{EffS, effective, is_at_least_effect, SameBelow, IsLawful}
use Rattle.gl_model.specs.State.{is_waiting_at, State, lives, status_of, HasNoCycle, is_wait, waits_for}
use Rattle.gl_model.specs.Tellings.{Told, notice_of}
use Rattle.gl_waits.specs.Waits.{IsOnNoCycle}
use Rattle.gl_modes.specs.Modes.{same_mode}

-- two names of one transaction
abbrev pub same_txn : TxnId → TxnId → Bool
same_txn t u = (t.slot == u.slot) && (t.age == u.age)

-- the command names t as its transaction; a settle of t needs none of its locks, and counts as another's command
abbrev pub names : TxnId → Command → Bool
names t (command.Lock u n m) = same_txn t u
names t (command.Try u n m) = same_txn t u
names t (command.Unlock u n) = same_txn t u
names t (command.Escalate u n) = same_txn t u
names t (command.Cancel u) = same_txn t u
names t (command.Commit u) = same_txn t u
names t (command.Renew u since) = same_txn t u
names t (command.Abort u) = same_txn t u
names t (command.Settle u) = false
names t (command.Insert u f ks) = same_txn t u
names t (command.Delete u r) = same_txn t u
names t (command.Rekey u r i k) = same_txn t u
names t (command.Move u n ps) = same_txn t u
names t (command.Drop u n) = same_txn t u
names t (command.IndexBy u ps f bs rs ks) = same_txn t u
names t (command.Split u i at) = same_txn t u
names t (command.Merge u i) = same_txn t u
names t c = false

-- the notice tells t of a grant
abbrev pub is_grant_to : TxnId → TxnId × Notice → Bool
is_grant_to t (u, notice.Granted n m) = same_txn t u
is_grant_to t (u, x) = false

-- some reply tells t of a grant
abbrev pub told_granted : TxnId → List (Answer × Told) → Bool
told_granted t rs = list_any (λ r. list_any (is_grant_to t) r.1) rs

-- a record that lives in both states
abbrev pub StandsInBoth : State → State → NodeId → Type 0
StandsInBoth s s' r = (is_live s.graph r ≡ true) × (is_live s'.graph r ≡ true) × (is_record_shape (shape_of s.graph r) ≡ true)

-- t's effective mode on every such record is the same, or the same or greater if t was told of a grant
pub record KeepsEffects (s s' : State) (t : TxnId) (granted : Bool) : Type 0 where
  pub same : granted ≡ false → (r : NodeId) → StandsInBoth s s' r → effective s' t.slot r ≡ effective s t.slot r
  pub greater : (r : NodeId) → StandsInBoth s s' r → is_at_least_effect (effective s' t.slot r) (effective s t.slot r) ≡ true

-- over a run that does not name t, its effective modes on records that live before and after stay, or may rise if it was told of a grant
abbrev pub OthersKeepEffects : Type 0
OthersKeepEffects =
    (s s' : State) (cs : List Command) (rs : List (Answer × Told)) (t : TxnId) → IsLawful s → Run s cs rs s' → lives s t ≡ true
    → list_any (names t) cs ≡ false → KeepsEffects s s' t (told_granted t rs)

-- the command adopts or forgets a record
abbrev pub is_of_rows : Command → Bool
is_of_rows (command.Adopt f keys) = true
is_of_rows (command.Forget r) = true
is_of_rows c = false

-- over a run that does not name t and adopts or forgets no row, no record is added, removed or given another key below a node that t reads
abbrev pub OthersKeepBelow : Type 0
OthersKeepBelow =
    (s s' : State) (cs : List Command) (rs : List (Answer × Told)) (t : TxnId) (n : NodeId) → IsLawful s → Run s cs rs s' → lives s t ≡ true
    → list_any (names t) cs ≡ false → list_any is_of_rows cs ≡ false → EffS s t.slot n → SameBelow s.graph s'.graph n

-- the command adopts a record of the file f, or forgets one of the records of f in g
abbrev pub is_of_rows_of : Graph → NodeId → Command → Bool
is_of_rows_of g f (command.Adopt h keys) = same_node h f
is_of_rows_of g f (command.Forget r) = same_node (first_parent g r) f
is_of_rows_of g f c = false

-- below n no record of the file f was added, removed or given another key
pub record SameBelowOf (g g' : Graph) (f n : NodeId) : Type 0 where
  pub kept : (r : NodeId) → first_parent g r ≡ f → IsBelow g n r → IsBelow g' n r × (keys_in (shape_of g' r) ≡ keys_in (shape_of g r))
  pub no_more : (r : NodeId) → first_parent g' r ≡ f → IsBelow g' n r → IsBelow g n r

-- the same of the records of one file, if no row of it is adopted or forgotten
abbrev pub OthersKeepFile : Type 0
OthersKeepFile =
    (s s' : State) (cs : List Command) (rs : List (Answer × Told)) (t : TxnId) (n f : NodeId) → IsLawful s → Run s cs rs s' → lives s t ≡ true
    → list_any (names t) cs ≡ false → list_any (is_of_rows_of s.graph f) cs ≡ false → EffS s t.slot n → SameBelowOf s.graph s'.graph f n

-- some step of a run between the states is so
abbrev pub SomeStep : (State → Command → Answer × Told → State → Type 0) → State → List Command → List (Answer × Told) → State → Type 0
SomeStep IsSo s (c ∷ cs) (r ∷ rs) s' = (mid : State) × Step s c r.0 r.1 mid × ((IsSo s c r mid × Run mid cs rs s') ⊎ SomeStep IsSo mid cs rs s')
SomeStep IsSo s cs rs s' = ⊥

-- the step adopts r as a record of f: it is answered with its name, and after it nobody holds it or waits for it
abbrev pub Adopts : (f r : NodeId) → State → Command → Answer × Told → State → Type 0
Adopts f r s (command.Adopt h keys) x s' = (h ≡ f) × (x.0 ≡ answer.Node r) × (is_idle s' r ≡ true)
Adopts f r s c x s' = ⊥

-- the step forgets r: it is done, and before it nobody held it or waited for it
abbrev pub Forgets : (r : NodeId) → State → Command → Answer × Told → State → Type 0
Forgets r s (command.Forget q) x s' = (q ≡ r) × (x.0 ≡ answer.Done) × (is_idle s r ≡ true)
Forgets r s c x s' = ⊥

-- a record is below n exactly if it was before, and one that was below n has its keys
pub record StaysBelow (g g' : Graph) (n r : NodeId) : Type 0 where
  pub kept : IsBelow g n r → IsBelow g' n r × (keys_in (shape_of g' r) ≡ keys_in (shape_of g r))
  pub no_more : IsBelow g' n r → IsBelow g n r

-- what a run leaves below n: records that live on as they were; new ones were adopted, in a file of adopted rows; removed ones were forgotten
pub record LeavesBelow (s : State) (cs : List Command) (rs : List (Answer × Told)) (s' : State) (n : NodeId) : Type 0 where
  pub stays : (r : NodeId) → is_live s.graph r ≡ true → is_live s'.graph r ≡ true → StaysBelow s.graph s'.graph n r
  pub came : (r : NodeId) → is_live s.graph r ≡ false → IsBelow s'.graph n r → SomeStep (Adopts (first_parent s'.graph r) r) s cs rs s'
  pub unadopted : (r : NodeId) → is_adopted (shape_of s'.graph (first_parent s'.graph r)) ≡ false → IsBelow s'.graph n r → is_live s.graph r ≡ true
  pub went : (r : NodeId) → IsBelow s.graph n r → is_live s'.graph r ≡ false → SomeStep (Forgets r) s cs rs s'

-- over a run that does not name t, adopt alone adds and forget alone removes records below a node that t reads, while nobody holds them or waits for them
abbrev pub OthersLeaveBelow : Type 0
OthersLeaveBelow =
    (s s' : State) (cs : List Command) (rs : List (Answer × Told)) (t : TxnId) (n : NodeId) → IsLawful s → Run s cs rs s' → lives s t ≡ true
    → list_any (names t) cs ≡ false → EffS s t.slot n → LeavesBelow s cs rs s' n

-- what a run leaves a transaction that it does not name: its effective modes, and the records below what it reads, except rows adopted and forgotten
pub record Leaves (s : State) (cs : List Command) (rs : List (Answer × Told)) (s' : State) (t : TxnId) : Type 0 where
  pub effects : KeepsEffects s s' t (told_granted t rs)
  pub below : (n : NodeId) → EffS s t.slot n → LeavesBelow s cs rs s' n

-- a run leaves that to every living transaction that it does not name
abbrev pub LeavesOthers : State → List Command → List (Answer × Told) → State → Type 0
LeavesOthers s cs rs s' = (t : TxnId) → lives s t ≡ true → list_any (names t) cs ≡ false → Leaves s cs rs s' t

-- one step leaves that to every living transaction that its command does not name
abbrev pub StepLeavesOthers : State → Command → Answer × Told → State → Type 0
StepLeavesOthers s c r s' = LeavesOthers s (c ∷ []) (r ∷ []) s'

-- each step of each command keeps the law of a state
abbrev pub StepsKeepLaw : Type 0
StepsKeepLaw = (s s' : State) (c : Command) (a : Answer) (told : Told) → IsLawful s → Step s c a told s' → IsLawful s'

-- and so does a run
abbrev pub RunsKeepLaw : Type 0
RunsKeepLaw = (s s' : State) (cs : List Command) (rs : List (Answer × Told)) → IsLawful s → Run s cs rs s' → IsLawful s'

-- with detection at block no run makes a cycle of waits
abbrev pub RunsKeepNoCycle : Type 0
RunsKeepNoCycle = (s s' : State) (cs : List Command) (rs : List (Answer × Told)) → s.detect ≡ AtBlock → IsLawful s → HasNoCycle s → Run s cs rs s'
    → HasNoCycle s'

-- a command leaves the effective mode of one slot on every node as it was
abbrev pub KeepsModes : ℕ → Command → Type 0
KeepsModes t c = (s s' : State) (a : Answer) (told : Told) → IsLawful s → Step s c a told s' → (n : NodeId) → effective s' t n ≡ effective s t n

-- a command lowers the effective mode of one slot on no node
abbrev pub LowersNone : ℕ → Command → Type 0
LowersNone t c = (s s' : State) (a : Answer) (told : Told) → IsLawful s → Step s c a told s' → (n : NodeId)
    → is_at_least_effect (effective s' t n) (effective s t n) ≡ true

-- a rekey leaves the mover's effective modes
abbrev pub RekeyKeepsMover : Type 0
RekeyKeepsMover = (t : TxnId) (r i : NodeId) (key : ℕ) → KeepsModes t.slot (command.Rekey t r i key)

-- a move leaves the mover's effective modes
abbrev pub MoveKeepsMover : Type 0
MoveKeepsMover = (t : TxnId) (n : NodeId) (ps : Bor (List NodeId)) → KeepsModes t.slot (command.Move t n ps)

-- an escalation lowers the caller's effective mode on no node
abbrev pub EscalateLowersNone : Type 0
EscalateLowersNone = (t : TxnId) (n : NodeId) → LowersNone t.slot (command.Escalate t n)

-- what a command leaves its caller: a rekey and a move leave its effective modes as they were, and an escalation lowers none
abbrev pub KeepsCaller : Command → State → State → Type 0
KeepsCaller (command.Rekey t r i key) s s' = (n : NodeId) → effective s' t.slot n ≡ effective s t.slot n
KeepsCaller (command.Move t x ps) s s' = (n : NodeId) → effective s' t.slot n ≡ effective s t.slot n
KeepsCaller (command.Escalate t x) s s' = (n : NodeId) → is_at_least_effect (effective s' t.slot n) (effective s t.slot n) ≡ true
KeepsCaller c s s' = Unit {0}

-- in a lawful state there is a step for every command, so no law of steps is empty
abbrev pub AlwaysAnswers : Type 0
AlwaysAnswers = (s : State) (c : Command) → IsLawful s → (a : Answer) × (told : Told) × (s' : State) × Step s c a told s'

-- the command makes a node, whose key may be any that is free
abbrev pub makes_node : Command → Bool
makes_node (command.Inner ps) = true
makes_node (command.File ps) = true
makes_node (command.Index ps f bs) = true
makes_node (command.Insert t f keys) = true
makes_node (command.Adopt f keys) = true
makes_node (command.IndexBy t ps f bs rs ks) = true
makes_node (command.Split t i at) = true
makes_node c = false

-- in a lawful state a command that makes no node has one answer, one list of notices and one state, lack of memory aside
abbrev pub OneOutcome : Type 0
OneOutcome =
    (s s₁ s₂ : State) (c : Command) (a₁ a₂ : Answer) (told₁ told₂ : Told) → IsLawful s → makes_node c ≡ false → Goes s c (refusal_of s c) a₁ told₁ s₁
    → Goes s c (refusal_of s c) a₂ told₂ s₂
    → (a₁ ≡ a₂) × (told₁ ≡ told₂) × (s₁ ≡ s₂)

-- what a settle of a transaction on no cycle leaves: nobody is told and, if it is not refused, only the count of accepted commands changes
abbrev pub SettlesIdle : State → Command → Answer → Told → State → Type 0
SettlesIdle s (command.Settle t) a told s' = IsOnNoCycle (waits_for s) t.slot → (told ≡ []) × (a ≡ answer.Done → s' ≡ accepted_once s)
SettlesIdle s c a told s' = Unit {0}

-- a settle of a transaction on no cycle settles nobody
abbrev pub SettlesNobody : Type 0
SettlesNobody = (s s' : State) (t : TxnId) (a : Answer) (told : Told) → IsLawful s → Step s (command.Settle t) a told s'
    → SettlesIdle s (command.Settle t) a told s'

-- t lives, and waits on n
abbrev pub waits_on : State → TxnId → NodeId → Bool
waits_on s t n = lives s t && is_waiting_at s t.slot n

-- some notice is to t
abbrev pub is_told : TxnId → Told → Bool
is_told t told = list_any (λ x. same_txn t x.0) told

-- the notice is this one
abbrev pub same_notice : Notice → Notice → Bool
same_notice (notice.Granted n m) (notice.Granted q w) = same_node n q && same_mode m w
same_notice notice.Victim notice.Victim = true
same_notice notice.Moved notice.Moved = true
same_notice notice.Gone notice.Gone = true
same_notice x y = false

-- t is told this
abbrev pub is_told_that : TxnId → Notice → Told → Bool
is_told_that t x told = list_any (λ y. same_txn t y.0 && same_notice x y.1) told

-- the command moves the node, gives it another key, or splits it
abbrev pub moves_node : NodeId → Command → Bool
moves_node n (command.Rekey t r i key) = same_node r n
moves_node n (command.Move t r ps) = same_node r n
moves_node n (command.Split t i at) = same_node i n
moves_node n c = false

-- t is told what became of its wait for m on n, as the state after the step shows it: that n moved only if the command moved it
pub record IsToldEnd (t : TxnId) (n : NodeId) (m : Mode) (c : Command) (told : Told) (s' : State) : Type 0 where
  pub said : Notice
  pub is : notice_of s' t.slot n m (status_of s' t.slot) ≡ Some said
  pub told_so : is_told_that t said told ≡ true
  pub moved : said ≡ notice.Moved → moves_node n c ≡ true

-- the command cancels or aborts t by its name
abbrev pub ends_wait_of : TxnId → Command → Bool
ends_wait_of t (command.Cancel u) = same_txn t u
ends_wait_of t (command.Abort u) = same_txn t u
ends_wait_of t c = false

-- the node has the same keys and parents in both states
pub record StandsThrough (s s' : State) (n : NodeId) : Type 0 where
  pub keys : keys_in (shape_of s'.graph n) ≡ keys_in (shape_of s.graph n)
  pub parents : parents_of s'.graph n ≡ parents_of s.graph n

-- all locks and transactions stay; a node that is added or removed is a record that nobody holds or waits for, and all others stay as they are
pub record ChangesIdleRows (s s' : State) : Type 0 where
  pub locks : s' ≡ record s { graph = s'.graph; accepted = s'.accepted }
  pub came : (n : NodeId) → is_live s.graph n ≡ false → is_live s'.graph n ≡ true → (is_record_shape (shape_of s'.graph n) ≡ true) × (is_idle s' n ≡ true)
  pub went : (n : NodeId) → is_live s.graph n ≡ true → is_live s'.graph n ≡ false → (is_record_shape (shape_of s.graph n) ≡ true) × (is_idle s n ≡ true)
  pub stays : (n : NodeId) → is_live s.graph n ≡ true → is_live s'.graph n ≡ true → StandsThrough s s' n

-- adopt and forget change only that
abbrev pub RowsComeAndGo : Type 0
RowsComeAndGo = (s s' : State) (c : Command) (a : Answer) (told : Told) → IsLawful s → is_of_rows c ≡ true → Step s c a told s' → ChangesIdleRows s s'

-- nobody waits
abbrev pub NobodyWaits : State → Type 0
NobodyWaits s = (t : ℕ) → is_wait (status_of s t) ≡ false

-- a wait begins by a lock alone: who waits after a step waited so before, or the step is answered with a wait
abbrev pub BeginsWaits : Type 0
BeginsWaits =
    (s s' : State) (c : Command) (a : Answer) (told : Told) (t : ℕ) (n : NodeId) (m : Mode) → Step s c a told s' → status_of s' t ≡ Some (Waiting n m)
    → (status_of s t ≡ Some (Waiting n m)) ⊎ (a ≡ answer.Waiting)

-- a wait that a step ends is told or named: its transaction is told what became of it, or the command cancelled or aborted it by name
abbrev pub EndsWaits : Type 0
EndsWaits =
    (s s' : State) (c : Command) (a : Answer) (told : Told) (t : TxnId) (n : NodeId) (m : Mode) → IsLawful s → Step s c a told s' → lives s t ≡ true
    → status_of s t.slot ≡ Some (Waiting n m) → waits_on s' t n ≡ false
    → IsToldEnd t n m c told s' ⊎ (ends_wait_of t c ≡ true)
