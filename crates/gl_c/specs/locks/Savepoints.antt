-- Calls by which a transaction rolls back to a savepoint, or commits and keeps its locks from before it.
use Rattle.std.specs.Prelude.{ℕ, Option, None, Some, Result, Ok, Err}
use Rattle.gl_modes.specs.declared.refusal.Refusal.{Refusal}
use Rattle.gl_model.specs.declared.txn.TxnId.{TxnId}
use Rattle.gl_steps.specs.declared.command.Answer.TheVariants as answer
use Rattle.gl_c.specs.declared.answers.reply.Reply.{Reply}
use Rattle.gl_c.specs.managers.Carries.{CallOf, acts}
use Rattle.gl_slots.specs.Slots.{has_none}
use Rattle.gl_c.specs.answers.Replies.{count_reply, refused_reply, reply_of}
use Rattle.gl_waiting.specs.Asking.{InTurn, KeepsLocks, RollsBackTo}

-- the reply: how many nodes were released
abbrev pub back_reply : Result ℕ Refusal → Reply
back_reply (Ok k) = count_reply k
back_reply (Err r) = refused_reply r

-- the call by which a transaction rolls back to a savepoint
abbrev pub back_call : TxnId → ℕ → CallOf (Result ℕ Refusal)
back_call t mark = record {
  does = λ v result told off v'. InTurn v (λ ended mid. RollsBackTo v t mark result told ended mid) off v';
  spares = λ result told known. has_none known;
  says = back_reply;
  rests = acts (Some t.slot);
}

-- the reply: the transaction that began, or that it was done and none began
abbrev pub keeping_reply : Result (Option TxnId) Refusal → Reply
keeping_reply (Ok (Some t)) = reply_of (answer.Begun t)
keeping_reply (Ok None) = reply_of answer.Done
keeping_reply (Err r) = refused_reply r

-- the call by which a transaction commits, and another begins in its slot that keeps its first locks
abbrev pub keeping_call : TxnId → ℕ → ℕ → CallOf (Result (Option TxnId) Refusal)
keeping_call t keep since = record {
  does = λ v result told off v'. InTurn v (λ ended mid. KeepsLocks v t keep since result told ended mid) off v';
  spares = λ result told known. has_none known;
  says = keeping_reply;
  rests = acts (Some t.slot);
}
