-- A call from C: what it does, and what C gets.
use Rattle.std.specs.Prelude.{◌≡◌, ◌⊎◌, ℕ, Bool, true, [], ◌<◌, ◌≤◌, List, Option, Some, None, length, map}
use denote.Bor.{Bor}
use Rattle.gl_modes.specs.declared.node.NodeId.{NodeId}
use Rattle.gl_slots.specs.declared.slots.Slots.{Slots}
use Rattle.gl_model.specs.Tellings.{Told}
use Rattle.gl_steps.specs.declared.command.Answer.{Answer}
use Rattle.gl_steps.specs.declared.command.Command.{Command}
use Rattle.gl_waiting.specs.Asking.{InTurn, Serves}
use Rattle.gl_waiting.specs.Resting.{Rouses, acting_in}
use Rattle.gl_waiting.specs.Waiting.{WaitingView}
use Rattle.gl_waiting.specs.declared.set_off.SetOff.{SetOff}
use Rattle.gl_window.specs.Tellings.{leaves_waits}
use Rattle.gl_c.specs.declared.names.Node.{Node}
use Rattle.gl_c.specs.declared.answers.notices.Notices.{Notices}
use Rattle.gl_c.specs.declared.answers.reply.Reply.{Reply}
use Rattle.gl_c.specs.managers.Guarded.{GuardedView, waiting_in}
use Rattle.gl_c.specs.Names.{node_id}
use Rattle.gl_c.specs.answers.Notices.{Tells}
use Rattle.gl_c.specs.Numbers.{no_manager}
use Rattle.gl_c.specs.answers.Replies.{served_reply, status_reply}
use Rattle.gl_c.specs.managers.Serving.{Leaves}

-- a kind of call: what it does to the table of waiters, with the begins that it hands on; whether it is known to leave all waits, by the parties to them;
-- what C is answered; and what becomes of those who rest
pub record CallOf (A : Type 0) : Type 1 where
  pub does : WaitingView → A → Told → SetOff → WaitingView → Type 0
  pub spares : A → Told → Slots → Bool
  pub says : A → Reply
  pub rests : WaitingView → A → WaitingView → Slots → Slots → Type 0

-- the transaction of this slot acts: it rests no more
abbrev pub acts : {A : Type 0} → Option ℕ → WaitingView → A → WaitingView → Slots → Slots → Type 0
acts slot v a v' r r' = Rouses slot v r v' r'

-- whether a call is known to leave all waits that carries out this command, if it does
abbrev pub spared_by : Command → Option Answer → Told → Slots → Bool
spared_by c None told known = true
spared_by c (Some a) told known = leaves_waits known c a told

-- the call that carries out a command, unless it would insert, delete or change a record of a file of rows
abbrev pub command_call : Command → CallOf (Option Answer)
command_call c = record {
  does = λ v a told off v'. InTurn v (λ ended mid. Serves v c a told ended mid) off v';
  spares = spared_by c;
  says = served_reply;
  rests = acts (acting_in c);
}

-- a call is made, with this answer and these notices
abbrev pub Performs : {A : Type 0} → GuardedView → CallOf A → A → Told → GuardedView → Type 0
Performs g call a told g' = Leaves (call.does (waiting_in g) a told) (call.spares a told) (call.rests (waiting_in g) a) g g'

-- a call is made, and C gets the reply and the notices
pub record Replies {A : Type 0} (g : GuardedView) (call : CallOf A) (r : Reply) (notices : Notices) (g' : GuardedView) : Type 0 where
  pub answer : A
  pub told : Told
  pub performs : Performs g call answer told g'
  pub replied : r ≡ call.says answer
  pub tells : Tells notices told

-- the same of a call that notifies nobody, so that no notice is lost
pub record Answers {A : Type 0} (g : GuardedView) (call : CallOf A) (r : Reply) (g' : GuardedView) : Type 0 where
  pub answer : A
  pub told : Told
  pub performs : Performs g call answer told g'
  pub replied : r ≡ call.says answer

-- nothing changed: there is no manager, or a number names nothing
pub record Declines (s : Option GuardedView) (status : ℕ) (r : Reply) (s' : Option GuardedView) : Type 0 where
  pub replied : r ≡ status_reply status
  pub same : s' ≡ s

-- a call with notices, which is made if there is a manager
abbrev pub Carries : {A : Type 0} → Option GuardedView → CallOf A → Reply → Notices → Option GuardedView → Type 0
Carries None call r notices s' = Declines None no_manager r s' × Tells notices []
Carries (Some g) call r notices s' = (g' : GuardedView) × (s' ≡ Some g') × Replies g call r notices g'

-- the same of a call that notifies nobody
abbrev pub Asks : {A : Type 0} → Option GuardedView → CallOf A → Reply → Option GuardedView → Type 0
Asks None call r s' = Declines None no_manager r s'
Asks (Some g) call r s' = (g' : GuardedView) × (s' ≡ Some g') × Answers g call r g'

-- a call with a number: it is carried out if the number has a meaning
abbrev pub Where : {A : Type 0} → Option A → (A → Type 0) → Type 0 → Type 0
Where None then other = other
Where (Some a) then other = then a

-- a call with the names of these nodes is made, or declined since memory for the names is lacking
abbrev pub Naming : List Node → (Bor (List NodeId) → Type 0) → Type 0 → Type 0
Naming ns then lacks = ((ids : Bor (List NodeId)) × (ids.now ≡ map node_id ns) × then ids) ⊎ lacks

-- the parents that C names, as a command needs them: at most 8
pub record Under (ps : List Node) (then : Bor (List NodeId) → Type 0) (other : Type 0) : Type 0 where
  pub few : length ps ≤ 8 → (ids : Bor (List NodeId)) × (ids.now ≡ map node_id ps) × then ids
  pub many : 8 < length ps → other
