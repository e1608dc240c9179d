-- What a contract sees of a registry with its notice boxes, and what each of its calls does to waits.
use Rattle.gl_slots.specs.Limit.{most_slots}
use Rattle.std.specs.Prelude.{◌≡◌, ◌⊎◌, ℕ, ◌<◌, ◌||◌, ◌==◌, List, [], Result, Ok, Err}
use Rattle.std.specs.List.{list_any}
use Rattle.gl_modes.specs.declared.refusal.Refusal.{Refusal}
use Rattle.gl_slots.specs.declared.slots.Slots.{Slots}
use Rattle.gl_slots.specs.Slots.{HasNoSlot, has_slot}
use Rattle.gl_model.specs.declared.answers.Locked.{Locked}
use Rattle.gl_model.specs.declared.txn.TxnId.{TxnId}
use Rattle.gl_model.specs.Tellings.{Told}
use Rattle.gl_steps.specs.Step.{answer_of_lock}
use Rattle.gl_steps.specs.declared.command.Answer.{Answer}
use Rattle.gl_steps.specs.declared.command.Answer.TheVariants as answer
use Rattle.gl_steps.specs.declared.command.Command.{Command}
use Rattle.gl_steps.specs.declared.command.Command.TheVariants as command
use Rattle.gl_catalog.specs.Manager.{ManagerView, state_of}
use Rattle.gl_rows.specs.Releasing.{no_node}
use Rattle.gl_rows.specs.Rows.{RegistryView, RowsView}
use Rattle.gl_wakes.specs.Boxes.{Puts, Slot}
use Rattle.gl_wakes.specs.Wakes.{HasEnded, names_slot}

-- the manager, its rows, and one notice box a slot
pub record DeliveryView : Type 0 where
  pub manager : ManagerView
  pub rows : RowsView
  pub boxes : List Slot

-- the registry: the manager, and its rows
abbrev pub registry_in : DeliveryView → RegistryView
registry_in d = record { manager = d.manager; rows = d.rows }

-- whose wait the command ended is in the set: exactly whom it told, and whom a cancel or an abort names
pub record Wakes (c : Command) (m : ManagerView) (told : Told) (m' : ManagerView) (ended : Slots) : Type 0 where
  pub all : HasEnded (state_of m) (state_of m') ended
  pub slots : (u : ℕ) → u < most_slots → has_slot ended u ≡ (names_slot c u || list_any (λ x. x.0.slot == u) told)

-- a call that comes to something delivers its notices, and answers whose waits it ended
pub record Delivered (d : DeliveryView) (c : Command) (told : Told) (ended : Slots) (d' : DeliveryView) : Type 0 where
  pub puts : Puts d.boxes c told d'.boxes
  pub wakes : Wakes c d.manager told d'.manager ended

-- any other call changes nothing, tells nobody and ends nobody's wait
pub record ComesToNothing (d : DeliveryView) (told : Told) (ended : Slots) (d' : DeliveryView) : Type 0 where
  pub same : d' ≡ d
  pub untold : told ≡ []
  pub none : HasNoSlot ended

-- each call is one, and counted, or the other
abbrev pub Carries : DeliveryView → Command → Told → Slots → DeliveryView → Type 0
Carries d c told ended d' = ((d.manager.accepted < d'.manager.accepted) × Delivered d c told ended d') ⊎ ComesToNothing d told ended d'

-- each command of a rollback to a savepoint unlocks a node; whom it tells does not depend on the node
abbrev pub unlocking : TxnId → Command
unlocking t = command.Unlock t no_node

-- what a lock is answered
abbrev pub lock_said : Result Locked Refusal → Answer
lock_said (Ok locked) = answer_of_lock locked
lock_said (Err r) = answer.Refused r

-- a lock is answered so
abbrev pub IsLockAnswer : Answer → Type 0
IsLockAnswer a = (result : Result Locked Refusal) × (lock_said result ≡ a)
