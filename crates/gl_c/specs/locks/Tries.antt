-- Calls that try paths and rows.
use Rattle.std.specs.Prelude.{true, false, [], Option, Some}
use Rattle.gl_modes.specs.declared.refusal.Refusal.TheVariants as no
use Rattle.gl_slots.specs.Slots.{has_none}
use Rattle.gl_model.specs.declared.answers.Locked.TheVariants as locked
use Rattle.gl_model.specs.declared.txn.TxnId.{TxnId}
use Rattle.gl_steps.specs.declared.command.Answer.TheVariants as answer
use Rattle.gl_catalog.specs.Paths.{Ask}
use Rattle.gl_rows.specs.Locking.{Wish}
use Rattle.gl_waiting.specs.declared.tries.Keep.{Keep}
use Rattle.gl_waiting.specs.declared.tries.RowTried.{RowTried}
use Rattle.gl_waiting.specs.declared.tries.RowTried.TheVariants as row
use Rattle.gl_waiting.specs.declared.tries.Tried.{Tried}
use Rattle.gl_waiting.specs.declared.tries.Tried.TheVariants as tried
use Rattle.gl_c.specs.declared.answers.notices.Notices.{Notices}
use Rattle.gl_c.specs.declared.answers.reply.Reply.{Reply}
use Rattle.gl_c.specs.managers.Carries.{Declines, CallOf, acts}
use Rattle.gl_c.specs.managers.Guarded.{GuardedView}
use Rattle.gl_c.specs.answers.Notices.{Tells}
use Rattle.gl_c.specs.answers.Replies.{refused_reply, reply_of, status_reply}
use Rattle.gl_c.specs.locks.Paths.{reply_at}
use Rattle.gl_c.specs.locks.Rows.{row_lock_status}
use Rattle.gl_c.specs.Numbers.{bad_number, not_rows}
use Rattle.gl_waiting.specs.Asking.{InTurn, TriesRowThere, TriesThere}

-- the reply for a tried path: the mode, or the node that would block, or the refusal
abbrev pub tried_reply : Tried → Reply
tried_reply (tried.Granted m) = reply_of (answer.Granted m)
tried_reply (tried.WouldBlock n) = reply_at n (refused_reply no.WouldBlock)
tried_reply (tried.Refused r) = refused_reply r

-- the reply for a tried row, with its node if it is held or would block
abbrev pub tried_row_reply : RowTried → Reply
tried_row_reply (row.Granted n m) = reply_at n (row_lock_status (locked.Granted m) true)
tried_row_reply (row.OtherKeys n m) = reply_at n (row_lock_status (locked.Granted m) false)
tried_row_reply (row.WouldBlock n) = reply_at n (refused_reply no.WouldBlock)
tried_row_reply (row.Refused r) = refused_reply r
tried_row_reply row.NotRows = status_reply not_rows

-- the call that tries a path
abbrev pub tried_path_call : Keep → TxnId → Ask → CallOf Tried
tried_path_call k t ask = record {
  does = λ v came told off v'. InTurn v (λ ended mid. TriesThere v t ask k came told ended mid) off v';
  spares = λ came told known. has_none known;
  says = tried_reply;
  rests = acts (Some t.slot);
}

-- the call that tries a row
abbrev pub tried_row_call : Wish → CallOf RowTried
tried_row_call w = record {
  does = λ v came told off v'. InTurn v (λ ended mid. TriesRowThere v w came told ended mid) off v';
  spares = λ came told known. has_none known;
  says = tried_row_reply;
  rests = acts (Some w.txn.slot);
}

-- a call with a number that names nothing
abbrev pub NamesNothing : Option GuardedView → Reply → Notices → Option GuardedView → Type 0
NamesNothing s r notices s' = Declines s bad_number r s' × Tells notices []
