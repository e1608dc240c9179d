-- A row's lock, and what a request for a row comes to by it.
use Rattle.std.specs.Prelude.{◌≡◌, Bool, List, ℕ, Option, Some, None, Result, Ok, Err, if◌then◌else◌}
use denote.Bor.{Bor}
use Rattle.gl_slots.specs.declared.slots.Slots.{Slots}
use Rattle.gl_modes.specs.declared.mode.Mode.{Mode}
use Rattle.gl_modes.specs.declared.node.NodeId.{NodeId}
use Rattle.gl_modes.specs.declared.refusal.Refusal.{Refusal}
use Rattle.gl_modes.specs.declared.refusal.Refusal.TheVariants as no
use Rattle.gl_model.specs.declared.answers.Locked.{Locked}
use Rattle.gl_model.specs.declared.answers.Locked.TheVariants as locked
use Rattle.gl_model.specs.declared.txn.TxnId.{TxnId}
use Rattle.gl_model.specs.State.{State}
use Rattle.gl_model.specs.Tellings.{Told}
use Rattle.gl_catalog.specs.Paths.{intention}
use Rattle.gl_rows.specs.declared.answer.RowAnswer.{RowAnswer}
use Rattle.gl_rows.specs.declared.answer.RowLocked.{RowLocked}
use Rattle.gl_rows.specs.declared.answer.RowRefusal.{RowRefusal}
use Rattle.gl_rows.specs.declared.answer.RowRefusal.TheVariants as row_no
use Rattle.gl_rows.specs.declared.call.RowCall.{RowCall}
use Rattle.gl_rows.specs.declared.call.RowCall.TheVariants as call
use Rattle.gl_rows.specs.declared.row.Row.{Row}
use Rattle.gl_rows.specs.Answers.{lock_said}
use Rattle.gl_rows.specs.Applying.{AppliesCall, CarriesOut, answer_in, own_command}
use Rattle.gl_rows.specs.Locking.{Wish}
use Rattle.gl_waiting.specs.Delivering.{Carries, DeliveryView, registry_in}
use Rattle.gl_waiting.specs.Keys.{keys_in}
use Rattle.gl_waiting.specs.Waiters.{waits_as}
use Rattle.gl_waiting.specs.declared.keys.RowKeys.{RowKeys}
use Rattle.gl_waiting.specs.declared.waiter.Came.{Came}
use Rattle.gl_waiting.specs.declared.waiter.Came.TheVariants as came
use Rattle.gl_waiting.specs.declared.waiter.Outcome.{Outcome}
use Rattle.gl_waiting.specs.declared.waiter.Outcome.TheVariants as end

-- the call that locks a row
abbrev pub row_lock : Wish → RowCall
row_lock w = call.Lock w.txn w.row w.keys w.mode

-- a row's lock is answered so
abbrev pub IsRowLockAnswer : RowAnswer → Type 0
IsRowLockAnswer a = (result : Result RowLocked RowRefusal) × (lock_said result ≡ a)

-- a row is locked, as a registry applies that call
pub record LocksRowAs (d : DeliveryView) (w : Wish) (result : Result RowLocked RowRefusal) (told : Told) (d' : DeliveryView) : Type 0 where
  pub applies : AppliesCall (registry_in d) (row_lock w) (lock_said result) told (registry_in d')
  pub own : CarriesOut d.manager (own_command d'.rows (row_lock w)) (answer_in (lock_said result)) told d'.manager

-- a row is locked in a delivery: its notices are in their boxes, and whose waits that ended is known
pub record LocksRowIn (d : DeliveryView) (w : Wish) (result : Result RowLocked RowRefusal) (told : Told) (ended : Slots) (d' : DeliveryView) : Type 0 where
  pub locks : LocksRowAs d w result told d'
  pub carries : Carries d (own_command d'.rows (row_lock w)) told ended d'

-- a row is locked with the keys of a request
pub record LocksRowWith (d : DeliveryView) (t : TxnId) (row : Row) (keys : RowKeys) (mode : Mode) (result : Result RowLocked RowRefusal) (told : Told)
    (d' : DeliveryView) : Type 0 where
  pub lent : Bor (List ℕ)
  pub same : lent.now ≡ keys_in keys
  pub ended : Slots
  pub locks : LocksRowIn d (record { txn = t; row = row; keys = lent; mode = mode }) result told ended d'

-- the node and the mode of a row that was granted and has the keys of its request
abbrev pub own_granted : NodeId → Locked → Bool → Option (NodeId × Mode)
own_granted node (locked.Granted mode) own_keys = if own_keys then Some (node, mode) else None
own_granted node locked.Waiting own_keys = None
own_granted node locked.Victim own_keys = None

-- the same of a row's lock
abbrev pub granted_own : Result RowLocked RowRefusal → Option (NodeId × Mode)
granted_own (Ok x) = own_granted x.node x.locked x.own_keys
granted_own (Err r) = None

-- the outcome after a wait for a row was granted at this node in this mode: only a row that is found to have the keys of its request is granted
abbrev pub after_grant : NodeId → Mode → Option (NodeId × Mode) → Outcome
after_grant at granted (Some x) = end.RowGranted x.0 x.1
after_grant at granted None = end.OtherKeys at granted

-- the same, by the lock that was requested again
abbrev pub again_as : NodeId → Mode → Result RowLocked RowRefusal → Outcome
again_as at granted result = after_grant at granted (granted_own result)

-- the outcome of a request for a row that was granted by this node in this mode, by whether the node has the keys of the request
abbrev pub granted_row : NodeId → Mode → Bool → Outcome
granted_row node mode own_keys = if own_keys then end.RowGranted node mode else end.OtherKeys node mode

-- what a row with what must be held above it came to, by the lock of its node
abbrev pub row_came_as : State → TxnId → NodeId → Bool → Locked → Came
row_came_as s t node own_keys (locked.Granted mode) = came.Ended (granted_row node mode own_keys)
row_came_as s t node own_keys locked.Victim = came.Ended (end.Victim node)
row_came_as s t node own_keys locked.Waiting = waits_as s t

-- the same of a row that was refused: a node that it lacks above is requested next, by the intention for this mode
abbrev pub row_lacks : Mode → Refusal → Came
row_lacks mode (no.NeedParents parent) = came.Lacks parent (intention mode)
row_lacks mode r = came.Ended (end.Refused r)

-- the same of a row's lock
abbrev pub row_came_of : State → TxnId → Mode → Result RowLocked RowRefusal → Came
row_came_of s t mode (Ok x) = row_came_as s t x.node x.own_keys x.locked
row_came_of s t mode (Err (row_no.Refused r)) = row_lacks mode r
row_came_of s t mode (Err row_no.NotRows) = came.Ended end.NotRows
