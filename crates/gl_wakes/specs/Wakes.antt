-- Which slots must be woken after a step.
use Rattle.gl_slots.specs.Limit.{most_slots}
use Rattle.std.specs.Prelude.{◌≡◌, ℕ, ◌<◌, Bool, true, false, ◌==◌}
use Rattle.gl_modes.specs.declared.node.NodeId.{NodeId}
use Rattle.gl_slots.specs.declared.slots.Slots.{Slots}
use Rattle.gl_slots.specs.Slots.{has_slot}
use Rattle.gl_model.specs.declared.txn.TxnId.{TxnId}
use Rattle.gl_model.specs.Lawful.{IsLawful}
use Rattle.gl_model.specs.State.{State}
use Rattle.gl_model.specs.Tellings.{Told}
use Rattle.gl_steps.specs.declared.command.Answer.{Answer}
use Rattle.gl_steps.specs.declared.command.Command.{Command}
use Rattle.gl_steps.specs.declared.command.Command.TheVariants as command
use Rattle.gl_steps.specs.Promises.{waits_on}
use Rattle.gl_steps.specs.Step.{Step}

-- the set has the slot of each transaction that waits in the first state and no more in the second
abbrev pub HasEnded : State → State → Slots → Type 0
HasEnded s s' slots = IsLawful s → (t : TxnId) (n : NodeId) → t.slot < most_slots → waits_on s t n ≡ true → waits_on s' t n ≡ false
    → has_slot slots t.slot ≡ true

-- for each step of the command with these notices, the set has each slot whose wait it ended; so no transaction sleeps on after its wait
abbrev pub WakesEnded : Command → Told → Slots → Type 0
WakesEnded c told slots = (s s' : State) (a : Answer) → Step s c a told s' → HasEnded s s' slots

-- the command cancels or aborts the transaction of this slot
abbrev pub names_slot : Command → ℕ → Bool
names_slot (command.Cancel t) u = t.slot == u
names_slot (command.Abort t) u = t.slot == u
names_slot c u = false
