-- The promises about rows: a file and a key for each of its indexes, with or without a record.
use Rattle.std.specs.Prelude.{◌≡◌, ◌≢◌, ◌||◌, ℕ, Bool, true, false, List, ◌∷◌, Option, Some, None, Result, length, if◌then◌else◌}
use Rattle.std.specs.List.{list_all, list_any}
use Rattle.gl_modes.specs.declared.mode.Mode.TheVariants.{NL}
use Rattle.gl_modes.specs.declared.node.NodeId.{NodeId}
use Rattle.gl_modes.specs.declared.refusal.Refusal.{Refusal}
use Rattle.gl_graph.specs.Graph.{Graph, first_parent, indexes_of, intervals_of, record_parents, shape_of}
use Rattle.gl_graph.specs.Shapes.{is_file_shape, is_index_of_shape, is_record_shape, keys_in}
use Rattle.gl_model.specs.declared.answers.Effect.{Effect}
use Rattle.gl_model.specs.declared.answers.Effect.TheVariants as effect
use Rattle.gl_model.specs.declared.txn.TxnId.{TxnId}
use Rattle.gl_model.specs.Lawful.{IsLawful, effective, is_at_least_effect}
use Rattle.gl_model.specs.State.{State, lives}
use Rattle.gl_model.specs.Tellings.{Told}
use Rattle.gl_steps.specs.declared.command.Answer.{Answer}
use Rattle.gl_steps.specs.declared.command.Command.{Command}
use Rattle.gl_steps.specs.declared.command.Command.TheVariants as command
use Rattle.gl_catalog.specs.declared.manager.paths.Reached.{Reached}
use Rattle.gl_steps.specs.Promises.{is_grant_to, names, same_txn, told_granted}
use Rattle.gl_catalog.specs.Manager.{state_of}
use Rattle.gl_catalog.specs.Paths.{Ask}
use Rattle.gl_steps.specs.Step.{Run}
use Rattle.gl_rows.specs.declared.answer.RowAnswer.{RowAnswer}
use Rattle.gl_rows.specs.declared.call.RowCall.{RowCall}
use Rattle.gl_rows.specs.declared.row.Row.{Row}
use Rattle.gl_rows.specs.Applying.{AppliesCall, own_command, unnamed}
use Rattle.gl_rows.specs.Names.{NamesHold}
use Rattle.gl_rows.specs.Releasing.{CommitsAndKeeps, GoesBackTo}
use Rattle.gl_rows.specs.Rows.{RegistryView, name_of}
use Rattle.gl_rows.specs.Serving.{PathLeavesRows, ServesBy, touches_rows}

-- f is a file, and there is a key for each of its indexes
pub record IsRow (g : Graph) (f : NodeId) (keys : List ℕ) : Type 0 where
  pub file : is_file_shape (shape_of g f) ≡ true
  pub a_key_each : length keys ≡ length (indexes_of g f)

-- t may write the row by locks further up: it has effective X on the file and on the interval of each key
abbrev pub writes_row : State → ℕ → NodeId → List ℕ → Bool
writes_row s t f keys = list_all (λ n. is_at_least_effect (effective s t n) effect.X) (record_parents s.graph f keys)

-- t may read the row by a lock further up: it has effective S or X on the file or on the interval of a key
abbrev pub reads_row : State → ℕ → NodeId → List ℕ → Bool
reads_row s t f keys = list_any (λ n. is_at_least_effect (effective s t n) effect.S) (record_parents s.graph f keys)

-- X to write, else S to read, else none
abbrev pub effect_of : Bool → Bool → Effect
effect_of writes reads = if writes then effect.X else (if reads then effect.S else effect.None)

-- the effective mode on the row by locks further up
abbrev pub row_effect : State → ℕ → NodeId → List ℕ → Effect
row_effect s t f keys = effect_of (writes_row s t f keys) (reads_row s t f keys)

-- in a lawful state no row can be written by one transaction and read by another
abbrev pub NoRowConflict : Type 0
NoRowConflict = (s : State) (t u : ℕ) (f : NodeId) (keys : List ℕ) → IsLawful s → t ≢ u → writes_row s t f keys ≡ true → reads_row s u f keys ≡ true → ⊥

-- Rows of a registry, with the locks on their own nodes.

-- the test holds of the row's node, if it has one
abbrev pub of_node : (NodeId → Bool) → Option NodeId → Bool
of_node test None = false
of_node test (Some n) = test n

-- t may write the row: by locks further up, for these keys, or by one on its node
abbrev pub may_write : RegistryView → ℕ → Row → List ℕ → Bool
may_write v t row keys =
    writes_row (state_of v.manager) t row.file keys || of_node (λ n. is_at_least_effect (effective (state_of v.manager) t n) effect.X) (name_of v.rows row)

-- t may read the row, likewise
abbrev pub may_read : RegistryView → ℕ → Row → List ℕ → Bool
may_read v t row keys =
    reads_row (state_of v.manager) t row.file keys || of_node (λ n. is_at_least_effect (effective (state_of v.manager) t n) effect.S) (name_of v.rows row)

-- the keys are the row's own: those of its node, if it has one
abbrev pub OwnKeys : RegistryView → Row → List ℕ → Type 0
OwnKeys v row keys = (n : NodeId) → name_of v.rows row ≡ Some n → keys_in (shape_of (state_of v.manager).graph n) ≡ keys

-- in a registry no row can be written by one transaction and read by another, by any locks, if its keys are its own
abbrev pub NoRowOfTwo : Type 0
NoRowOfTwo =
    (v : RegistryView) (t u : ℕ) (row : Row) (keys : List ℕ) → IsLawful (state_of v.manager) → NamesHold v.rows (state_of v.manager).graph
    → OwnKeys v row keys → t ≢ u → may_write v t row keys ≡ true → may_read v u row keys ≡ true → ⊥

-- Records and their rows.

-- t's effective mode on a record is at least that on its row, and exactly that if t holds nothing on the record itself
pub record HasRowEffect (s : State) (t : ℕ) (r : NodeId) (f : NodeId) (keys : List ℕ) : Type 0 where
  pub above : is_at_least_effect (effective s t r) (row_effect s t f keys) ≡ true
  pub alone : s.held t r ≡ NL → effective s t r ≡ row_effect s t f keys

-- the same for each record of a lawful state: its row is its file and its keys
abbrev pub RecordsHaveRowEffects : Type 0
RecordsHaveRowEffects =
    (s : State) (t : ℕ) (r : NodeId) → IsLawful s → is_record_shape (shape_of s.graph r) ≡ true
    → HasRowEffect s t r (first_parent s.graph r) (keys_in (shape_of s.graph r))

-- a row in both states
abbrev pub IsRowInBoth : State → State → NodeId → List ℕ → Type 0
IsRowInBoth s s' f keys = IsRow s.graph f keys × IsRow s'.graph f keys

-- t's effective mode on every such row of f is the same, or may be greater if t was told of a grant
pub record KeepsRowEffects (s s' : State) (t : TxnId) (f : NodeId) (granted : Bool) : Type 0 where
  pub same : granted ≡ false → (keys : List ℕ) → IsRowInBoth s s' f keys → row_effect s' t.slot f keys ≡ row_effect s t.slot f keys
  pub greater : (keys : List ℕ) → IsRowInBoth s s' f keys → is_at_least_effect (row_effect s' t.slot f keys) (row_effect s t.slot f keys) ≡ true

-- the command drops an index of the file f in g
abbrev pub drops_index_of : Graph → NodeId → Command → Bool
drops_index_of g f (command.Drop t n) = is_index_of_shape f (shape_of g n)
drops_index_of g f c = false

-- a run that does not name t and drops no index of the file keeps t's effective modes on the file's rows, or may raise them if t was told of a grant
abbrev pub OthersKeepRowEffects : Type 0
OthersKeepRowEffects =
    (s s' : State) (cs : List Command) (rs : List (Answer × Told)) (t : TxnId) (f : NodeId) → IsLawful s → Run s cs rs s' → lives s t ≡ true
    → list_any (names t) cs ≡ false → list_any (drops_index_of s.graph f) cs ≡ false → KeepsRowEffects s s' t f (told_granted t rs)

-- the effective mode on a row with these keys by locks on a file and on the intervals of these indexes
abbrev pub effect_by : State → ℕ → NodeId → List NodeId → List ℕ → Effect
effect_by s t f is keys =
    effect_of (list_all (λ n. is_at_least_effect (effective s t n) effect.X) (f ∷ intervals_of s.graph is keys))
    (list_any (λ n. is_at_least_effect (effective s t n) effect.S) (f ∷ intervals_of s.graph is keys))

-- f is a file, and each of these is an index of it
pub record AreIndexes (g : Graph) (f : NodeId) (is : List NodeId) : Type 0 where
  pub file : is_file_shape (shape_of g f) ≡ true
  pub indexes : list_all (λ i. is_index_of_shape f (shape_of g i)) is ≡ true

-- t's effective mode by a file and by indexes of it in both states is the same, or may be greater if t was told of a grant
pub record KeepsByIndexes (s s' : State) (t : TxnId) (granted : Bool) : Type 0 where
  pub same : granted ≡ false → (f : NodeId) (is : List NodeId) (keys : List ℕ) → AreIndexes s.graph f is → AreIndexes s'.graph f is
      → effect_by s' t.slot f is keys ≡ effect_by s t.slot f is keys
  pub greater : (f : NodeId) (is : List NodeId) (keys : List ℕ) → AreIndexes s.graph f is → AreIndexes s'.graph f is
      → is_at_least_effect (effect_by s' t.slot f is keys) (effect_by s t.slot f is keys) ≡ true

-- a run that does not name t keeps t's effective modes by a file and by the indexes in both states, or may raise them if t was told of a grant
abbrev pub OthersKeepByIndexes : Type 0
OthersKeepByIndexes =
    (s s' : State) (cs : List Command) (rs : List (Answer × Told)) (t : TxnId) → IsLawful s → Run s cs rs s' → lives s t ≡ true → list_any (names t) cs ≡ false
    → KeepsByIndexes s s' t (told_granted t rs)

-- The same of rows of a registry, with the locks on their own nodes.

-- t's effective mode on a row of a registry, by all its locks
abbrev pub effect_on : RegistryView → ℕ → Row → List ℕ → Effect
effect_on v t row keys = effect_of (may_write v t row keys) (may_read v t row keys)

-- a row in both registries, whose keys are its own in both
pub record IsOwnInBoth (v v' : RegistryView) (row : Row) (keys : List ℕ) : Type 0 where
  pub rows : IsRowInBoth (state_of v.manager) (state_of v'.manager) row.file keys
  pub own : OwnKeys v row keys
  pub still_own : OwnKeys v' row keys

-- t's effective mode on every such row is the same, or may be greater if t was told of a grant
pub record KeepsOnRows (v v' : RegistryView) (t : TxnId) (granted : Bool) : Type 0 where
  pub same : granted ≡ false → (row : Row) (keys : List ℕ) → IsOwnInBoth v v' row keys → effect_on v' t.slot row keys ≡ effect_on v t.slot row keys
  pub greater : (row : Row) (keys : List ℕ) → IsOwnInBoth v v' row keys → is_at_least_effect (effect_on v' t.slot row keys) (effect_on v t.slot row keys) ≡ true

-- t is told of a grant
abbrev pub is_granted : TxnId → Told → Bool
is_granted t told = list_any (is_grant_to t) told

-- what holds of every registry: a lawful state and the law of names
pub record IsRegistry (v : RegistryView) : Type 0 where
  pub law : IsLawful (state_of v.manager)
  pub names : NamesHold v.rows (state_of v.manager).graph

-- serving a command by its node keeps that for each living transaction that the command does not name
abbrev pub CommandsKeepOnRows : Type 0
CommandsKeepOnRows =
    (v v' : RegistryView) (c : Command) (result : Option Answer) (told : Told) (t : TxnId) → IsRegistry v → ServesBy (touches_rows v c) v c result told v'
    → lives (state_of v.manager) t ≡ true → names t c ≡ false → KeepsOnRows v v' t (is_granted t told)

-- locking a path keeps that for each other living transaction
abbrev pub PathsKeepOnRows : Type 0
PathsKeepOnRows =
    (v v' : RegistryView) (u : TxnId) (ask : Ask) (result : Result Reached Refusal) (told : Told) (t : TxnId) → IsRegistry v
    → PathLeavesRows u ask v result told v'
    → lives (state_of v.manager) t ≡ true → same_txn t u ≡ false → KeepsOnRows v v' t (is_granted t told)

-- rolling back to a savepoint keeps that for each other living transaction
abbrev pub BacksKeepOnRows : Type 0
BacksKeepOnRows =
    (v v' : RegistryView) (u : TxnId) (mark : ℕ) (result : Result ℕ Refusal) (told : Told) (t : TxnId) → IsRegistry v
    → GoesBackTo u mark v.manager v.rows result told v'.manager v'.rows → lives (state_of v.manager) t ≡ true → same_txn t u ≡ false
    → KeepsOnRows v v' t (is_granted t told)

-- a commit that keeps locks keeps that for each other living transaction
abbrev pub KeepingsKeepOnRows : Type 0
KeepingsKeepOnRows =
    (v v' : RegistryView) (u : TxnId) (keep since : ℕ) (result : Result (Option TxnId) Refusal) (told : Told) (t : TxnId) → IsRegistry v
    → CommitsAndKeeps u keep since v.manager v.rows result told v'.manager v'.rows → lives (state_of v.manager) t ≡ true → same_txn t u ≡ false
    → KeepsOnRows v v' t (is_granted t told)

-- the call names t as its transaction, and so does its command, whatever its row's node
abbrev pub names_in : TxnId → RowCall → Bool
names_in t c = names t (own_command unnamed c)

-- a call about rows keeps that for each living transaction that the call does not name
abbrev pub CallsKeepOnRows : Type 0
CallsKeepOnRows =
    (v v' : RegistryView) (c : RowCall) (a : RowAnswer) (told : Told) (t : TxnId) → IsRegistry v → AppliesCall v c a told v'
    → lives (state_of v.manager) t ≡ true → names_in t c ≡ false → KeepsOnRows v v' t (is_granted t told)
