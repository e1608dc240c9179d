-- Answers to sessions.
use Rattle.gl_slots.specs.Limit.{most_slots}
use Rattle.std.specs.Prelude.{◌≡◌, ℕ, ◌<◌, ◌||◌, ◌==◌, Some, Result, Ok, Err}
use Rattle.std.specs.List.{list_any}
use Rattle.gl_slots.specs.declared.slots.Slots.{Slots}
use Rattle.gl_slots.specs.Slots.{has_slot}
use Rattle.gl_modes.specs.declared.mode.Mode.{Mode}
use Rattle.gl_modes.specs.declared.node.NodeId.{NodeId}
use Rattle.gl_model.specs.declared.txn.TxnId.{TxnId}
use Rattle.gl_model.specs.Tellings.{Told}
use Rattle.gl_steps.specs.declared.command.Answer.{Answer}
use Rattle.gl_steps.specs.declared.command.Answer.TheVariants as answer
use Rattle.gl_steps.specs.declared.command.Command.{Command}
use Rattle.gl_catalog.specs.Manager.{IsLawfulManager, ManagerView, state_of}
use Rattle.gl_steps.specs.Step.{Step}
use Rattle.gl_wakes.specs.declared.grant.Grant.{Grant}
use Rattle.gl_wakes.specs.declared.grant.Stop.{Stop}
use Rattle.gl_wakes.specs.declared.grant.Stop.TheVariants as stop
use Rattle.gl_wakes.specs.Boxes.{verdict_of}
use Rattle.gl_wakes.specs.Wakes.{names_slot}
use Rattle.gl_shared.specs.State.{GuardedView}

-- the command was served by a step from a lawful state, with this answer, these notices and this count of accepted commands after it
abbrev pub IsServed : Command → Answer → Told → ℕ → Type 0
IsServed c a told count = (s : ManagerView) × (t : ManagerView) × IsLawfulManager s × Step (state_of s) c a told (state_of t) × (count ≡ t.accepted)

-- the set has exactly the slots that the command told, and the slot that a cancel or an abort names
abbrev pub AreWoken : Command → Told → Slots → Type 0
AreWoken c told slots = (u : ℕ) → u < most_slots → has_slot slots u ≡ (names_slot c u || list_any (λ x. x.0.slot == u) told)

-- some lawful state under the latch gives this verdict
abbrev pub IsVerdict : TxnId → NodeId → Mode → Result Grant Stop → Type 0
IsVerdict t n k x = (g : GuardedView) × IsLawfulManager g.manager × (verdict_of (state_of g.manager) g.boxes t n k ≡ Some x)

-- the result of a lock with this answer: the grant of the mode now held, or why there is none; if it is left waiting, the only other case, a verdict
abbrev pub Gives : TxnId → NodeId → Mode → Answer → Result Grant Stop → Type 0
Gives t n k (answer.Granted m) x = x ≡ Ok (record { txn = t; node = n; mode = m })
Gives t n k answer.Victim x = x ≡ Err stop.Victim
Gives t n k (answer.Refused r) x = x ≡ Err (stop.Refused r)
Gives t n k a x = IsVerdict t n k x
