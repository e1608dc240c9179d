-- Begins in turn.
use Rattle.std.specs.Prelude.{◌≡◌, ℕ, Bool, true, false, Option, Some, None, drop, slice_get}
use Rattle.std.specs.List.{find, list_any}
use Rattle.gl_modes.specs.declared.refusal.Refusal.TheVariants as no
use Rattle.gl_steps.specs.declared.command.Answer.{Answer}
use Rattle.gl_waiting.specs.Asking.{BeginsInTurn, begin_of, begin_said}
use Rattle.gl_waiting.specs.Begins.{Begun, has_word, is_late, without_first}
use Rattle.gl_waiting.specs.declared.begins.QueuedBegin.{QueuedBegin}
use Rattle.gl_waiting.specs.declared.begins.Turn.{Turn}
use Rattle.gl_waiting.specs.declared.begins.Turn.TheVariants as turn
use Rattle.gl_c.specs.declared.answers.reply.Reply.{Reply}
use Rattle.gl_c.specs.managers.Carries.{CallOf, Declines, spared_by, acts}
use Rattle.gl_c.specs.managers.Guarded.{GuardedView}
use Rattle.gl_c.specs.Numbers.{done, given_at, no_manager, no_place, waiting}
use Rattle.gl_c.specs.answers.Replies.{count_reply, refused_reply, reply_of, status_reply}

-- a begin as C names it
abbrev pub begin_at : ℕ → ℕ → ℕ → QueuedBegin
begin_at since word until = record { word = word; since = given_at since; until = Some until }

-- what the command of a begin was answered, if it was carried out
abbrev pub turn_said : Turn → Option Answer
turn_said (turn.Came result) = Some (begin_said result)
turn_said turn.Queued = None
turn_said turn.NoMemory = None

-- the reply for a begin in turn: it began, was refused, or waits for a slot
abbrev pub turn_reply : Turn → Reply
turn_reply (turn.Came result) = reply_of (begin_said result)
turn_reply turn.Queued = status_reply waiting
turn_reply turn.NoMemory = refused_reply no.NoMemory

-- the call that begins in turn; it notifies nobody
abbrev pub turn_call : QueuedBegin → CallOf Turn
turn_call b = record {
  does = λ v came told off v'. BeginsInTurn v b came off.ended v' × (off.went_on ≡ false);
  spares = λ came told known. spared_by (begin_of b.since) (turn_said came) told known;
  says = turn_reply;
  rests = acts None;
}

-- the reply for a begin that was handed on: its answer, and its name
abbrev pub begun_reply : Option Begun → Reply
begun_reply (Some b) = record (reply_of (begin_said b.1)) { count = b.0.word }
begun_reply None = status_reply no_place

-- the first of the begins that were handed on is taken
abbrev pub TakesBegun : Option GuardedView → Reply → Option GuardedView → Type 0
TakesBegun None r s' = Declines None no_manager r s'
TakesBegun (Some g) r s' = (r ≡ begun_reply (slice_get g.begun 0)) × (s' ≡ Some (record g { begun = drop 1 g.begun }))

-- the reply for a begin that is to be taken out of the queue
abbrev pub found_reply : Bool → Reply
found_reply true = status_reply done
found_reply false = status_reply no_place

-- the begin of this name is taken out of those that wait for a slot
abbrev pub Withdraws : Option GuardedView → ℕ → Reply → Option GuardedView → Type 0
Withdraws None word r s' = Declines None no_manager r s'
Withdraws (Some g) word r s' =
    (r ≡ found_reply (list_any (has_word word) g.queue)) × (s' ≡ Some (record g { queue = without_first (has_word word) g.queue }))

-- the name of a begin
abbrev pub word_reply : Option QueuedBegin → Reply
word_reply (Some b) = count_reply b.word
word_reply None = status_reply no_place

-- the first begin whose time is over is taken out of those that wait for a slot
abbrev pub TakesLate : Option GuardedView → ℕ → Reply → Option GuardedView → Type 0
TakesLate None now r s' = Declines None no_manager r s'
TakesLate (Some g) now r s' = (r ≡ word_reply (find (is_late now) g.queue)) × (s' ≡ Some (record g { queue = without_first (is_late now) g.queue }))
