-- What each call about rows does, and which command it carries out.
use Rattle.std.specs.Prelude.{◌≡◌, ◌⊎◌, Bool, true, false, List, [], Option, Some, None, Result}
use Rattle.std.specs.List.{list_all}
use Rattle.gl_modes.specs.declared.node.NodeId.{NodeId}
use Rattle.gl_modes.specs.declared.refusal.Refusal.{Refusal}
use Rattle.gl_slots.specs.Slots.{no_slots}
use Rattle.gl_model.specs.State.{State}
use Rattle.gl_model.specs.Tellings.{Told}
use Rattle.gl_steps.specs.declared.command.Answer.{Answer}
use Rattle.gl_steps.specs.declared.command.Command.{Command}
use Rattle.gl_steps.specs.declared.command.Command.TheVariants as command
use Rattle.gl_catalog.specs.Counters.{counted, refuses}
use Rattle.gl_catalog.specs.Deadlocks.{KeptBy}
use Rattle.gl_catalog.specs.Manager.{ManagerView, state_of}
use Rattle.gl_catalog.specs.Replies.{Says, made, said}
use Rattle.gl_steps.specs.Step.{Step, answer_of_lock}
use Rattle.gl_rows.specs.declared.answer.RowAnswer.{RowAnswer}
use Rattle.gl_rows.specs.declared.answer.RowAnswer.TheVariants as row_answer
use Rattle.gl_rows.specs.declared.answer.RowLocked.{RowLocked}
use Rattle.gl_rows.specs.declared.answer.RowRefusal.{RowRefusal}
use Rattle.gl_rows.specs.declared.call.RowCall.{RowCall}
use Rattle.gl_rows.specs.declared.call.RowCall.TheVariants as call
use Rattle.gl_rows.specs.Answers.{done_said, lock_said}
use Rattle.gl_rows.specs.Files.{MakesFile}
use Rattle.gl_rows.specs.Locking.{Line, LocksRow, Runs}
use Rattle.gl_rows.specs.Releasing.{RekeysRow, UnlocksRow, named_or_none}
use Rattle.gl_rows.specs.Rows.{RegistryView, RowsView}

-- the outcome of a call, with its answer and its effect
pub record Came {A : Type 0} {R : Type 0} (says : Result A R → RowAnswer) (done : Result A R → Type 0) (a : RowAnswer) : Type 0 where
  pub result : Result A R
  pub answered : a ≡ says result
  pub was_done : done result

-- an outcome that is answered as a command's
abbrev pub plainly : {A : Type 0} → (A → Says) → Result A Refusal → RowAnswer
plainly says result = row_answer.Answered (said says result).0

-- what each call does
abbrev pub AppliesRow : ManagerView → RowsView → RowCall → RowAnswer → Told → ManagerView → RowsView → Type 0
AppliesRow m v (call.File ps) a told m' v' = Came {A = NodeId} {R = Refusal} (plainly made) (λ r. MakesFile m v ps r m' v' × (told ≡ [])) a
AppliesRow m v (call.Lock t row keys mode) a told m' v' =
    Came {A = RowLocked} {R = RowRefusal} lock_said (λ r. LocksRow m v (record { txn = t; row = row; keys = keys; mode = mode }) r told m' v') a
AppliesRow m v (call.Unlock t row) a told m' v' = Came {A = Unit {0}} {R = RowRefusal} done_said (λ r. UnlocksRow m v t row r told m' v') a
AppliesRow m v (call.Rekey t row index key) a told m' v' = Came {A = Unit {0}} {R = RowRefusal} done_said (λ r. RekeysRow m v t row index key r told m' v') a

-- the same for a registry
abbrev pub AppliesCall : RegistryView → RowCall → RowAnswer → Told → RegistryView → Type 0
AppliesCall v c a told v' = AppliesRow v.manager v.rows c a told v'.manager v'.rows

-- the command that a call carries out, on its row's node
abbrev pub own_command : RowsView → RowCall → Command
own_command v (call.File ps) = command.File ps
own_command v (call.Lock t row keys m) = command.Lock t (named_or_none v row) m
own_command v (call.Unlock t row) = command.Unlock t (named_or_none v row)
own_command v (call.Rekey t row index key) = command.Rekey t (named_or_none v row) index key

-- no row has a node
abbrev pub unnamed : RowsView
unnamed = record { files = []; names = []; asked = []; left = no_slots }

-- the rows that give a call its node: for a lock those after it, for any other call those before it
abbrev pub naming : RowCall → RowsView → RowsView → RowsView
naming (call.Lock t row keys m) v v' = v'
naming c v v' = v

-- the answer to the call's command; none after `NotRows`
abbrev pub answer_in : RowAnswer → Option Answer
answer_in (row_answer.Locked x) = Some (answer_of_lock x.locked)
answer_in (row_answer.Answered a) = Some a
answer_in row_answer.NotRows = None

-- the command adopts or forgets a record
abbrev pub is_upkeep : Command → Bool
is_upkeep (command.Adopt f keys) = true
is_upkeep (command.Forget r) = true
is_upkeep c = false

-- a run that only adopts and forgets records
pub record Upkeep (s s' : State) : Type 0 where
  pub lines : List Line
  pub run : Runs s lines s'
  pub kept : list_all (λ l. is_upkeep l.0) lines ≡ true

-- one step of a command, with records adopted and forgotten before and after it; only that step changes the counters and the last deadlock
pub record StepsAmid (m : ManagerView) (c : Command) (a : Answer) (told : Told) (m' : ManagerView) : Type 0 where
  pub ahead : State
  pub behind : State
  pub before : Upkeep (state_of m) ahead
  pub step : Step ahead c a told behind
  pub after : Upkeep behind (state_of m')
  pub counters : m'.counters ≡ counted ahead c a told behind m.counters
  pub deadlock : KeptBy c ahead m.table.deadlock a behind m'.table.deadlock

-- nobody is told, and nothing changes
abbrev pub Stays : ManagerView → Told → ManagerView → Type 0
Stays m told m' = (told ≡ []) × (m' ≡ m)

-- an answer is that of such a step, or a refusal that changes nothing; without an answer nothing changes
abbrev pub CarriesOut : ManagerView → Command → Option Answer → Told → ManagerView → Type 0
CarriesOut m c None told m' = Stays m told m'
CarriesOut m c (Some a) told m' = StepsAmid m c a told m' ⊎ ((refuses a ≡ true) × Stays m told m')
