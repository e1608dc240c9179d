-- What a call about rows does to all that C's mutex protects.
use Rattle.std.specs.Prelude.{◌≡◌, Bool, true, false, Option, Some, None}
use Rattle.gl_modes.specs.declared.node.NodeId.{NodeId}
use Rattle.gl_modes.specs.declared.refusal.Refusal.TheVariants as no
use Rattle.gl_model.specs.declared.answers.Locked.{Locked}
use Rattle.gl_model.specs.declared.answers.Locked.TheVariants as locked
use Rattle.gl_steps.specs.declared.command.Answer.TheVariants as answer
use Rattle.gl_rows.specs.Applying.{answer_in, own_command, unnamed}
use Rattle.gl_rows.specs.Rows.{name_of}
use Rattle.gl_rows.specs.declared.answer.RowAnswer.{RowAnswer}
use Rattle.gl_rows.specs.declared.answer.RowAnswer.TheVariants as row_answer
use Rattle.gl_rows.specs.declared.call.RowCall.{RowCall}
use Rattle.gl_rows.specs.declared.row.Row.{Row}
use Rattle.gl_c.specs.declared.answers.reply.Reply.{Reply}
use Rattle.gl_c.specs.managers.Carries.{Declines, CallOf, spared_by, acts}
use Rattle.gl_c.specs.managers.Guarded.{GuardedView}
use Rattle.gl_c.specs.Numbers.{no_manager, not_rows, other_keys, victim, waiting}
use Rattle.gl_c.specs.locks.Paths.{reply_at}
use Rattle.gl_c.specs.answers.Replies.{refused_reply, reply_of, status_reply}
use Rattle.gl_waiting.specs.Resting.{acting_in}
use Rattle.gl_waiting.specs.Asking.{InTurn, ServesRow}

-- the reply for the lock of a row's node: if granted, the row is held, even if the node's keys are not those that the caller named
abbrev pub row_lock_status : Locked → Bool → Reply
row_lock_status (locked.Granted m) true = reply_of (answer.Granted m)
row_lock_status (locked.Granted m) false = record (reply_of (answer.Granted m)) { status = other_keys }
row_lock_status locked.Waiting own = status_reply waiting
row_lock_status locked.Victim own = status_reply victim

-- the reply for a call about rows; if it is a lock that is not refused, with the row's node
abbrev pub call_reply : RowAnswer → Reply
call_reply (row_answer.Locked x) = reply_at x.node (row_lock_status x.locked x.own_keys)
call_reply (row_answer.Answered a) = reply_of a
call_reply row_answer.NotRows = status_reply not_rows

-- a call about rows; whether it is known to leave all waits does not depend on their nodes
abbrev pub row_call : RowCall → CallOf RowAnswer
row_call c = record {
  does = λ v a told off v'. InTurn v (λ ended mid. ServesRow v c a told ended mid) off v';
  spares = λ a told known. spared_by (own_command unnamed c) (answer_in a) told known;
  says = call_reply;
  rests = acts (acting_in (own_command unnamed c));
}

-- the reply with a row's node
abbrev pub named_reply : Option NodeId → Reply
named_reply (Some n) = reply_of (answer.Node n)
named_reply None = refused_reply no.NoSuchNode

-- a call that asks for the node of a row: nothing changes
abbrev pub FindsRow : Option GuardedView → Row → Reply → Option GuardedView → Type 0
FindsRow None row r s' = Declines None no_manager r s'
FindsRow (Some g) row r s' = (r ≡ named_reply (name_of g.rows row)) × (s' ≡ Some g)
