-- What became of a wait.
use Rattle.std.specs.Prelude.{◌≡◌, Option, Some, None, Result, Ok, Err}
use Rattle.gl_modes.specs.declared.mode.Mode.{Mode}
use Rattle.gl_modes.specs.declared.node.NodeId.{NodeId}
use Rattle.gl_model.specs.declared.txn.TxnId.{TxnId}
use Rattle.gl_steps.specs.declared.command.Answer.TheVariants as answer
use Rattle.gl_catalog.specs.Manager.{state_of}
use Rattle.gl_wakes.specs.declared.grant.Grant.{Grant}
use Rattle.gl_wakes.specs.declared.grant.Stop.{Stop}
use Rattle.gl_wakes.specs.declared.grant.Stop.TheVariants as stop
use Rattle.gl_wakes.specs.Boxes.{verdict_of}
use Rattle.gl_c.specs.declared.answers.reply.Reply.{Reply}
use Rattle.gl_c.specs.managers.Carries.{Declines}
use Rattle.gl_c.specs.managers.Guarded.{GuardedView}
use Rattle.gl_c.specs.Numbers.{gone, moved, no_manager, victim, waiting}
use Rattle.gl_c.specs.answers.Replies.{refused_reply, reply_of, status_reply}

-- the reply for a verdict: the wait continues; a grant, with the mode now held; or why there is none
abbrev pub verdict_reply : Option (Result Grant Stop) → Reply
verdict_reply None = status_reply waiting
verdict_reply (Some (Ok g)) = reply_of (answer.Granted g.mode)
verdict_reply (Some (Err (stop.Refused r))) = refused_reply r
verdict_reply (Some (Err stop.Victim)) = status_reply victim
verdict_reply (Some (Err stop.Moved)) = status_reply moved
verdict_reply (Some (Err stop.Gone)) = status_reply gone

-- a call that asks for a verdict: nothing changes
abbrev pub Judges : Option GuardedView → TxnId → NodeId → Mode → Reply → Option GuardedView → Type 0
Judges None t n k r s' = Declines None no_manager r s'
Judges (Some g) t n k r s' = (r ≡ verdict_reply (verdict_of (state_of g.manager) g.boxes t n k)) × (s' ≡ Some g)
