-- Which commands are accepted.
use Rattle.std.specs.Prelude.{◌≡◌, ◌+◌, Bool, true, false, not, ◌&&◌, []}
use Rattle.gl_model.specs.State.{State}
use Rattle.gl_model.specs.Tellings.{Told}
use Rattle.gl_steps.specs.declared.command.Answer.{Answer}
use Rattle.gl_steps.specs.declared.command.Answer.TheVariants as answer
use Rattle.gl_steps.specs.declared.command.Command.{Command}
use Rattle.gl_steps.specs.declared.command.Command.TheVariants as command

-- the command is a query
abbrev pub is_query : Command → Bool
is_query (command.Group n) = true
is_query (command.Held t n) = true
is_query (command.Effective t n) = true
is_query c = false

-- an answer that refuses
abbrev pub is_refused : Answer → Bool
is_refused (answer.Refused r) = true
is_refused a = false

-- an answer that leaves its requester waiting
abbrev pub leaves_waiting : Answer → Bool
leaves_waiting answer.Waiting = true
leaves_waiting a = false

-- the command is no query, and is not refused
abbrev pub accepts : Command → Answer → Bool
accepts c a = not (is_query c) && not (is_refused a)

-- if a command is not accepted, all is as before and nobody is told; if it is, it is counted
pub record Counts (s : State) (c : Command) (a : Answer) (told : Told) (s' : State) : Type 0 where
  pub not_accepted : accepts c a ≡ false → (s' ≡ s) × (told ≡ [])
  pub accepted : accepts c a ≡ true → s'.accepted ≡ s.accepted + 1
