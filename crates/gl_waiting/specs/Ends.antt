-- How a waiter goes on whose wait is over.
use Rattle.std.specs.Prelude.{◌≡◌, ◌<◌, ℕ, [], Bool, true, false, Option, None, Some, Result, is_some}
use Rattle.gl_modes.specs.declared.refusal.Refusal.{Refusal}
use Rattle.gl_slots.specs.declared.slots.Slots.{Slots}
use Rattle.gl_catalog.specs.Manager.{state_of}
use Rattle.gl_catalog.specs.declared.manager.paths.Reached.{Reached}
use Rattle.gl_modes.specs.declared.node.NodeId.{NodeId}
use Rattle.gl_model.specs.Tellings.{Told}
use Rattle.gl_steps.specs.Promises.{names, same_txn}
use Rattle.gl_model.specs.declared.txn.TxnId.{TxnId}
use Rattle.gl_steps.specs.declared.command.Answer.{Answer}
use Rattle.gl_steps.specs.declared.command.Command.TheVariants as command
use Rattle.gl_rows.specs.Serving.{IsServed, PathLeavesRows}
use Rattle.gl_rows.specs.declared.answer.RowLocked.{RowLocked}
use Rattle.gl_rows.specs.declared.answer.RowRefusal.{RowRefusal}
use Rattle.gl_waiting.specs.Delivering.{DeliveryView, registry_in}
use Rattle.gl_waiting.specs.Going.{Call}
use Rattle.gl_waiting.specs.RowLocks.{LocksRowWith, again_as, row_came_of}
use Rattle.gl_waiting.specs.Begins.{earlier, earliest_of}
use Rattle.gl_waiting.specs.Waiters.{came_of, earliest_until, next_in, node_in, place_at}
use Rattle.gl_waiting.specs.Waiting.{WaitingView}
use Rattle.gl_waiting.specs.declared.waiter.Came.{Came}
use Rattle.gl_waiting.specs.declared.waiter.Came.TheVariants as came
use Rattle.gl_waiting.specs.declared.waiter.Next.{Next}
use Rattle.gl_waiting.specs.declared.waiter.Next.TheVariants as next
use Rattle.gl_waiting.specs.declared.waiter.Waiter.{Waiter}

-- a node is unlocked, as a command of the registry
abbrev pub Unlocks : TxnId → NodeId → Told → DeliveryView → DeliveryView → Type 0
Unlocks t node told d d' = (a : Answer) × IsServed (registry_in d) (command.Unlock t node) a told (registry_in d')

-- a waiter does what comes next, and its request came to this: it ends, after its lock is given back if that was for an instant; the next part of its path is
-- locked; its row is locked again; or its row is locked
abbrev pub Continues : Waiter → Next → DeliveryView → Came → Told → DeliveryView → Type 0
Continues w (next.End outcome) d c told d' = (c ≡ came.Ended outcome) × (told ≡ []) × (d' ≡ d)
Continues w (next.GiveBack outcome) d c told d' = (c ≡ came.Ended outcome) × Unlocks w.txn (node_in w.request) told d d'
Continues w (next.GoOn node mode) d c told d' =
    (result : Result Reached Refusal) × PathLeavesRows w.txn (node, mode) (registry_in d) result told (registry_in d')
    × (c ≡ came_of (state_of d'.manager) w.txn (node_in w.request) w.instant result)
Continues w (next.LockAgain row keys mode granted) d c told d' =
    (result : Result RowLocked RowRefusal) × LocksRowWith d w.txn row keys mode result told d' × (c ≡ came.Ended (again_as w.at granted result))
Continues w (next.LockRow row keys mode) d c told d' =
    (result : Result RowLocked RowRefusal) × LocksRowWith d w.txn row keys mode result told d' × (c ≡ row_came_of (state_of d'.manager) w.txn mode result)

-- at most one call, with these notices, that ended the waits of these slots, and names no transaction but this
abbrev pub CallWith : TxnId → Told → Slots → DeliveryView → DeliveryView → Type 0
CallWith t told ended d d' =
    (call : Call d d') × (call.told ≡ told) × (call.ended ≡ ended) × ((u : TxnId) → same_txn u t ≡ false → names u call.command ≡ false)

-- what the waiter of a slot does next
abbrev pub next_at : WaitingView → ℕ → Option (Waiter × Next)
next_at v u = next_in (state_of v.manager) v.boxes (place_at v.places u)

-- what comes next of all: what the waiter of the lowest slot does whose wait is over
abbrev pub IsNext : WaitingView → Option (Waiter × Next) → Type 0
IsNext v (Some x) = (u : ℕ) × (next_at v u ≡ Some x) × ((k : ℕ) → k < u → next_at v k ≡ None)
IsNext v None = (u : ℕ) → next_at v u ≡ None

-- whether the wait of a waiter is over
abbrev pub HasNext : WaitingView → Bool → Type 0
HasNext v true = (u : ℕ) × (is_some (next_at v u) ≡ true)
HasNext v false = IsNext v None

-- the earliest time at which a wait ends, for a lock or for a slot; none if none has one
abbrev pub earliest_time : WaitingView → Option ℕ
earliest_time v = earlier (earliest_until v.places) (earliest_of v.queue)
