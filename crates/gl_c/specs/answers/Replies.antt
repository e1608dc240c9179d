-- Replies to C.
use Rattle.std.specs.Prelude.{ℕ, Option, Some, None}
use Rattle.gl_modes.specs.declared.refusal.Refusal.{Refusal}
use Rattle.gl_modes.specs.declared.refusal.Refusal.TheVariants as no
use Rattle.gl_modes.specs.Refusals.{refusal_number}
use Rattle.gl_steps.specs.declared.command.Answer.{Answer}
use Rattle.gl_steps.specs.declared.command.Answer.TheVariants as answer
use Rattle.gl_c.specs.declared.names.Node.{Node}
use Rattle.gl_c.specs.declared.answers.reply.Reply.{Reply}
use Rattle.gl_c.specs.Names.{node_of, txn_of}
use Rattle.gl_c.specs.Numbers.{done, effect_number, mode_number, rows_by_number, victim, waiting}

-- the name of no node
abbrev pub nobody : Node
nobody = record { key = 0; birth = 0 }

-- a status alone
abbrev pub status_reply : ℕ → Reply
status_reply n = record { status = n; mode = 0; node = nobody; txn = record { slot = 0; age = 0 }; released = 0; kept = 0; count = 0; wanted = 0 }

-- a number that was asked about
abbrev pub count_reply : ℕ → Reply
count_reply n = record (status_reply done) { count = n }

-- the node that a refusal names
abbrev pub refused_at : Refusal → Node
refused_at (no.NeedParents n) = node_of n
refused_at (no.HeldChild n) = node_of n
refused_at (no.Cycle n) = node_of n
refused_at r = nobody

-- the number of a refusal, and the node that it names
abbrev pub refused_reply : Refusal → Reply
refused_reply r = record (status_reply (refusal_number r)) { node = refused_at r }

-- the reply for an answer
abbrev pub reply_of : Answer → Reply
reply_of answer.Done = status_reply done
reply_of (answer.Node n) = record (status_reply done) { node = node_of n }
reply_of (answer.Begun t) = record (status_reply done) { txn = txn_of t }
reply_of (answer.Granted m) = record (status_reply done) { mode = mode_number m }
reply_of answer.Waiting = status_reply waiting
reply_of answer.Victim = status_reply victim
reply_of (answer.Escalated e) = record (status_reply done) { mode = mode_number e.mode; released = e.released; kept = e.kept }
reply_of (answer.Mode m) = record (status_reply done) { mode = mode_number m }
reply_of (answer.Effect e) = record (status_reply done) { mode = effect_number e }
reply_of (answer.Refused r) = refused_reply r

-- the reply for a command that is not made if it would insert, delete or change a record of a file of rows
abbrev pub served_reply : Option Answer → Reply
served_reply None = status_reply rows_by_number
served_reply (Some a) = reply_of a
