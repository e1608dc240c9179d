-- What holds of each command of a table of waiters.
use Rattle.std.specs.Prelude.{◌≡◌, false, [], Some}
use Rattle.gl_modes.specs.declared.refusal.Refusal.{Refusal}
use Rattle.gl_model.specs.State.{State}
use Rattle.gl_model.specs.Tellings.{Told}
use Rattle.gl_steps.specs.Step.{Step}
use Rattle.gl_steps.specs.declared.command.Answer.{Answer}
use Rattle.gl_steps.specs.declared.command.Answer.TheVariants as answer
use Rattle.gl_steps.specs.declared.command.Command.{Command}
use Rattle.gl_catalog.specs.Manager.{state_of}
use Rattle.gl_rows.specs.Applying.{Upkeep}
use Rattle.gl_rows.specs.Serving.{lets_go, remains_after}
use Rattle.gl_waiting.specs.Asking.{InTurn, IsNothing, Serves}
use Rattle.gl_waiting.specs.Waiting.{WaitingView}
use Rattle.gl_waiting.specs.declared.set_off.SetOff.{SetOff}

-- a command is carried out in a table, with this answer, these notices, and what it sets off
abbrev pub IsAnswered : WaitingView → Command → Answer → Told → SetOff → WaitingView → Type 0
IsAnswered v c a told off v' = InTurn v (λ ended mid. Serves v c (Some a) told ended mid) off v'

-- a refused command changes nothing, tells nobody and sets nothing off
abbrev pub RefusalsChangeNothing : Type 0
RefusalsChangeNothing =
    (v : WaitingView) (c : Command) (r : Refusal) (told : Told) (off : SetOff) (v' : WaitingView) → IsAnswered v c (answer.Refused r) told off v'
    → (v' ≡ v) × (told ≡ []) × IsNothing off

-- a command is one step while no begin waits for a slot, and waiters stay as they are. Records of rows may be forgotten after a step that releases locks or
-- gives back a wait, and after no other
abbrev pub CommandsAreSteps : Type 0
CommandsAreSteps =
    (v : WaitingView) (c : Command) (a : Answer) (told : Told) (off : SetOff) (v' : WaitingView) → IsAnswered v c a told off v' → v.queue ≡ []
    → ((mid : State) × Step (state_of v.manager) c a told mid × Upkeep mid (state_of v'.manager)
    × (lets_go (remains_after c a) ≡ false → state_of v'.manager ≡ mid)) × (v'.places ≡ v.places) × (v'.queue ≡ []) × (v'.begun ≡ v.begun)
