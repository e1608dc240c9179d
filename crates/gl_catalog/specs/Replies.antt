-- What the calls of the manager answer, as answers to commands.
use Rattle.std.specs.Prelude.{List, [], Option, Some, None, Result, Ok, Err, map}
use Rattle.arrayvec.specs.ArrayVec.{ArrayVec}
use Rattle.gl_modes.specs.declared.mode.Mode.{Mode}
use Rattle.gl_modes.specs.declared.node.NodeId.{NodeId}
use Rattle.gl_modes.specs.declared.refusal.Refusal.{Refusal}
use Rattle.gl_model.specs.declared.answers.Effect.{Effect}
use Rattle.gl_model.specs.declared.answers.Notice.{Notice}
use Rattle.gl_model.specs.declared.answers.Locked.{Locked}
use Rattle.gl_model.specs.declared.txn.Status.{Status}
use Rattle.gl_model.specs.declared.txn.Status.TheVariants.{Waiting}
use Rattle.gl_model.specs.declared.txn.TxnId.{TxnId}
use Rattle.gl_model.specs.State.{State}
use Rattle.gl_model.specs.Tellings.{Told}
use Rattle.gl_steps.specs.declared.command.Answer.{Answer}
use Rattle.gl_steps.specs.declared.command.Answer.TheVariants as answer
use Rattle.gl_steps.specs.declared.command.Command.{Command}
use Rattle.gl_steps.specs.declared.command.Escalated.{Escalated}
use Rattle.gl_steps.specs.declared.command.Reply.{Reply}
use Rattle.gl_steps.specs.Step.{Step, answer_of_lock}

-- an answer and its notices
abbrev pub Says : Type 0
Says = Answer × Told

-- the notices of a told list
abbrev pub Notices : Type 0
Notices = ArrayVec (TxnId × Notice)

-- a node was made
abbrev pub made : NodeId → Says
made n = (answer.Node n, [])

-- a transaction began
abbrev pub began : TxnId → Says
began t = (answer.Begun t, [])

-- the command was done, with these notices
abbrev pub doing : Told → Unit {0} → Says
doing told u = (answer.Done, told)

-- the same for a call that answers the list
abbrev pub done : Notices → Says
done told = doing told.items tt

-- a node was made, with these notices
abbrev pub making : Told → NodeId → Says
making told n = (answer.Node n, told)

-- a mode was granted
abbrev pub took : Mode → Says
took m = (answer.Granted m, [])

-- a lock was requested, with these notices
abbrev pub asking : Told → Locked → Says
asking told x = (answer_of_lock x, told)

-- an escalation was done, with these notices
abbrev pub rising : Told → Escalated → Says
rising told x = (answer.Escalated x, told)

-- the same for a call that answers the list
abbrev pub rose : Escalated × Notices → Says
rose x = rising x.1.items x.0

-- a mode was queried
abbrev pub read_mode : Mode → Says
read_mode m = (answer.Mode m, [])

-- an effective mode was queried
abbrev pub read_effect : Effect → Says
read_effect e = (answer.Effect e, [])

-- the answer of a call that may be refused
abbrev pub said : {A : Type 0} → (A → Says) → Result A Refusal → Says
said says (Ok x) = says x
said says (Err r) = (answer.Refused r, [])

-- a call is a step of the model
abbrev pub CallSteps : {A : Type 0} → State → Command → (A → Says) → Result A Refusal → State → Type 0
CallSteps s c says result s' = Step s c (said says result).0 (said says result).1 s'

-- the awaited node and the wanted mode
abbrev pub wait_of : Option Status → Option (NodeId × Mode)
wait_of (Some (Waiting n m)) = Some (n, m)
wait_of o = None

-- the answers and notices of a list of replies
abbrev pub said_in : List Reply → List Says
said_in replies = map (λ r. (r.answer, r.told.items)) replies
