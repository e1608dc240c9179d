-- Tries of rows: locks that are granted at once, or refused.
use Rattle.std.specs.Prelude.{◌≡◌, ℕ, Bool, true, false, not, ◌&&◌, [], Option, Some, None, Result, Ok, Err, OnErr, OnOk, if◌then◌else◌}
use Rattle.gl_slots.specs.declared.slots.Slots.{Slots}
use Rattle.gl_slots.specs.Slots.{HasNoSlot}
use Rattle.gl_modes.specs.declared.mode.Mode.{Mode}
use Rattle.gl_modes.specs.declared.mode.Mode.TheVariants.{NL}
use Rattle.gl_modes.specs.declared.node.NodeId.{NodeId}
use Rattle.gl_modes.specs.declared.refusal.Refusal.{Refusal}
use Rattle.gl_modes.specs.declared.refusal.Refusal.TheVariants as no
use Rattle.gl_modes.specs.Modes.{is_at_least, same_mode}
use Rattle.gl_model.specs.declared.answers.Locked.TheVariants as locked
use Rattle.gl_model.specs.declared.txn.TxnId.{TxnId}
use Rattle.gl_model.specs.Calls.{is_idle}
use Rattle.gl_model.specs.State.{State, front_at, is_wait, lives, status_of, with_grant}
use Rattle.gl_model.specs.Tellings.{Told}
use Rattle.gl_steps.specs.declared.command.Answer.TheVariants as answer
use Rattle.gl_catalog.specs.Manager.{ManagerView, state_of}
use Rattle.gl_catalog.specs.Replies.{CallSteps, took}
use Rattle.gl_rows.specs.declared.answer.RowAnswer.{RowAnswer}
use Rattle.gl_rows.specs.declared.answer.RowAnswer.TheVariants as row_answer
use Rattle.gl_rows.specs.declared.answer.RowLocked.{RowLocked}
use Rattle.gl_rows.specs.declared.answer.RowRefusal.{RowRefusal}
use Rattle.gl_rows.specs.declared.answer.RowRefusal.TheVariants as row_no
use Rattle.gl_rows.specs.declared.call.RowCall.TheVariants as call
use Rattle.gl_rows.specs.Applying.{AppliesCall, CarriesOut, answer_in, own_command}
use Rattle.gl_rows.specs.Locking.{Wish}
use Rattle.gl_rows.specs.Rows.{name_of}
use Rattle.gl_waiting.specs.Delivering.{Carries, DeliveryView, registry_in}
use Rattle.gl_waiting.specs.RowLocks.{LocksRowIn}
use Rattle.gl_waiting.specs.Tries.{try_of}
use Rattle.gl_waiting.specs.declared.tries.RowTried.{RowTried}
use Rattle.gl_waiting.specs.declared.tries.RowTried.TheVariants as tried

-- the outcome of the row's lock that a tried row came to
abbrev pub lock_of_tried : RowTried → Result RowLocked RowRefusal
lock_of_tried (tried.Granted n m) = Ok (record { node = n; locked = locked.Granted m; own_keys = true })
lock_of_tried (tried.OtherKeys n m) = Ok (record { node = n; locked = locked.Granted m; own_keys = false })
lock_of_tried (tried.WouldBlock n) = Err (row_no.Refused no.WouldBlock)
lock_of_tried (tried.Refused r) = Err (row_no.Refused r)
lock_of_tried tried.NotRows = Err row_no.NotRows

-- a row's lock was granted at once, or refused
abbrev pub IsAtOnce : Result RowLocked RowRefusal → Type 0
IsAtOnce (Ok x) = (m : Mode) × (x.locked ≡ locked.Granted m)
IsAtOnce (Err r) = Unit {0}

-- a row was refused
abbrev pub row_refused : RowRefusal → RowTried
row_refused (row_no.Refused r) = tried.Refused r
row_refused row_no.NotRows = tried.NotRows

-- a try of the row's node was refused
abbrev pub refused_at : NodeId → Refusal → RowTried
refused_at n no.WouldBlock = tried.WouldBlock n
refused_at n r = tried.Refused r

-- a row was released
abbrev pub is_released : RowAnswer → Bool
is_released (row_answer.Answered answer.Done) = true
is_released a = false

-- the node of a row that somebody holds or waits for
abbrev pub busy_node : State → Option NodeId → Option NodeId
busy_node s None = None
busy_node s (Some n) = if is_idle s n then None else Some n

-- the transaction lives, and holds the node
abbrev pub was_held : State → TxnId → NodeId → Bool
was_held s t n = lives s t && not (same_mode (s.held t.slot n) NL)

-- the transaction holds the node in this mode, which is a lock
abbrev pub IsHeldIn : State → TxnId → NodeId → Mode → Type 0
IsHeldIn s t n m = (s.held t.slot n ≡ m) × (same_mode m NL ≡ false)

-- the transaction holds the node in this mode, which is that one or greater
abbrev pub HoldsAtLeast : State → TxnId → NodeId → Mode → Mode → Type 0
HoldsAtLeast s t n m least = (s.held t.slot n ≡ m) × (is_at_least m least ≡ true)

-- a row that was granted is held as the answer says, in the mode of the try or a greater one
abbrev pub HoldsTried : TxnId → Mode → RowTried → State → Type 0
HoldsTried t k (tried.Granted n m) s = HoldsAtLeast s t n m k
HoldsTried t k (tried.OtherKeys n m) s = HoldsAtLeast s t n m k
HoldsTried t k (tried.WouldBlock n) s = Unit {0}
HoldsTried t k (tried.Refused r) s = Unit {0}
HoldsTried t k tried.NotRows s = Unit {0}

-- no transaction begins to wait
abbrev pub BeginsNoWait : State → State → Type 0
BeginsNoWait s s' = (u : ℕ) → is_wait (status_of s u) ≡ false → is_wait (status_of s' u) ≡ false

-- nobody would be granted if the transaction released the node
abbrev pub BlocksNobody : State → TxnId → NodeId → Type 0
BlocksNobody s t n = front_at (with_grant s t.slot n NL) n ≡ []

-- a refused try changes no queue
abbrev pub KeepsQueues : RowTried → State → State → Type 0
KeepsQueues (tried.Granted n m) s s' = Unit {0}
KeepsQueues (tried.OtherKeys n m) s s' = Unit {0}
KeepsQueues (tried.WouldBlock n) s s' = (q : NodeId) → s'.queue q ≡ s.queue q
KeepsQueues (tried.Refused r) s s' = (q : NodeId) → s'.queue q ≡ s.queue q
KeepsQueues tried.NotRows s s' = (q : NodeId) → s'.queue q ≡ s.queue q

-- a row that was refused is released, and the refusal is answered; if the release is refused too, the row stays held
pub record GivesRowBack (why : RowRefusal) (n : NodeId) (w : Wish) (d : DeliveryView) (came : RowTried) (told : Told) (ended : Slots) (d' : DeliveryView)
    : Type 0 where
  pub answer : RowAnswer
  pub applies : AppliesCall (registry_in d) (call.Unlock w.txn w.row) answer told (registry_in d')
  pub own : CarriesOut d.manager (own_command d.rows (call.Unlock w.txn w.row)) (answer_in answer) told d'.manager
  pub carries : Carries d (own_command d.rows (call.Unlock w.txn w.row)) told ended d'
  pub came_to : came ≡ (if is_released answer then row_refused why else tried.OtherKeys n w.mode)

-- what follows a row's lock that was requested after a try of its node: if it is refused, a row that was not held before is released
abbrev pub FollowsLock : Bool → NodeId → Wish → Result RowLocked RowRefusal → DeliveryView → RowTried → Told → Slots → DeliveryView → Type 0
FollowsLock held n w (Ok x) d came told ended d' = (lock_of_tried came ≡ Ok x) × (d' ≡ d)
FollowsLock true n w (Err why) d came told ended d' = (came ≡ tried.OtherKeys n w.mode) × (told ≡ []) × HasNoSlot ended × (d' ≡ d)
FollowsLock false n w (Err why) d came told ended d' = GivesRowBack why n w d came told ended d'

-- a row whose node a try has locked is locked as a row, in the mode in which its node is held
pub record NotesRow (held : Bool) (n : NodeId) (w : Wish) (d : DeliveryView) (came : RowTried) (told : Told) (ended : Slots) (d' : DeliveryView) : Type 0 where
  pub result : Result RowLocked RowRefusal
  pub first_told : Told
  pub first_ended : Slots
  pub mid : DeliveryView
  pub locks : LocksRowIn d w result first_told first_ended mid
  pub tells : OnOk result ((told ≡ first_told) × (ended ≡ first_ended))
  pub follows : FollowsLock held n w result mid came told ended d'

-- after a try of a row's node that was refused nothing changes; a row whose node was granted is locked as a row
abbrev pub FollowsTry : Result Mode Refusal → Bool → NodeId → Wish → DeliveryView → RowTried → Told → Slots → DeliveryView → Type 0
FollowsTry (Err r) held n w d came told ended d' = (came ≡ refused_at n r) × (told ≡ []) × HasNoSlot ended × (d' ≡ d)
FollowsTry (Ok m) held n w d came told ended d' = NotesRow held n (record w { mode = m }) d came told ended d'

-- a row is tried by its node
pub record TriesNamed (n : NodeId) (w : Wish) (d : DeliveryView) (came : RowTried) (told : Told) (ended : Slots) (d' : DeliveryView) : Type 0 where
  pub tried : Result Mode Refusal
  pub mid : ManagerView
  pub step : CallSteps (state_of d.manager) (try_of w.txn (n, w.mode)) took tried (state_of mid)
  pub unchanged : OnErr tried (mid ≡ d.manager)
  pub follows : FollowsTry tried (was_held (state_of d.manager) w.txn n) n w (record d { manager = mid }) came told ended d'

-- a row whose node somebody holds or waits for is tried by that; any other is locked, and is granted at once or refused
abbrev pub TriesRowBy : Option NodeId → Wish → DeliveryView → RowTried → Told → Slots → DeliveryView → Type 0
TriesRowBy (Some n) w d came told ended d' = TriesNamed n w d came told ended d'
TriesRowBy None w d came told ended d' = LocksRowIn d w (lock_of_tried came) told ended d'

-- a row is tried
abbrev pub TriesRow : Wish → DeliveryView → RowTried → Told → Slots → DeliveryView → Type 0
TriesRow w d came told ended d' = TriesRowBy (busy_node (state_of d.manager) (name_of d.rows w.row)) w d came told ended d'
