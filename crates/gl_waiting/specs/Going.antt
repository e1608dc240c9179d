-- Runs of commands of the model, and calls of a delivery.
use Rattle.gl_slots.specs.declared.slots.Slots.{Slots}
use Rattle.std.specs.Prelude.{◌≡◌, List, false, map}
use Rattle.std.specs.List.{list_any}
use Rattle.gl_model.specs.State.{State}
use Rattle.gl_model.specs.Tellings.{Told}
use Rattle.gl_model.specs.declared.txn.TxnId.{TxnId}
use Rattle.gl_steps.specs.Promises.{names}
use Rattle.gl_steps.specs.declared.command.Command.{Command}
use Rattle.gl_catalog.specs.Manager.{state_of}
use Rattle.gl_rows.specs.Locking.{Line, Runs}
use Rattle.gl_waiting.specs.Delivering.{Carries, DeliveryView}

-- some commands lead from one state to the other
abbrev pub IsRun : State → State → Type 0
IsRun s s' = (lines : List Line) × Runs s lines s'

-- the same of commands that name no transaction but that which this command names
abbrev pub IsRunOf : Command → State → State → Type 0
IsRunOf c s s' = (run : IsRun s s') × ((t : TxnId) → names t c ≡ false → list_any (names t) (map (λ (l : Line). l.0) run.0) ≡ false)

-- one call: a run of the model that ends so, with its notices in their boxes
pub record Call (d d' : DeliveryView) : Type 0 where
  pub command : Command
  pub told : Told
  pub ended : Slots
  pub carries : Carries d command told ended d'
  pub run : IsRunOf command (state_of d.manager) (state_of d'.manager)
