-- What each call does to a table of waiters, and what it is answered.
use Rattle.std.specs.Prelude.{◌≡◌, ◌≢◌, ◌<◌, ◌⊎◌, ◌==◌, ◌++◌, ◌∷◌, ℕ, zero, suc, not, Bool, true, false, Some, List, [], Option, None, Result, Ok, Err}
use Rattle.std.specs.Prelude.{OnErr, OnOk, drop, slice_get, slice_set}
use Rattle.gl_modes.specs.declared.node.NodeId.{NodeId}
use Rattle.gl_modes.specs.declared.refusal.Refusal.{Refusal}
use Rattle.gl_modes.specs.declared.refusal.Refusal.TheVariants as no
use Rattle.gl_slots.specs.Limit.{most_slots}
use Rattle.gl_slots.specs.Slots.{HasNoSlot}
use Rattle.gl_slots.specs.declared.slots.Slots.{Slots}
use Rattle.gl_graph.specs.Refusals.{first_refusal, max_count}
use Rattle.gl_model.specs.State.{State}
use Rattle.gl_model.specs.Tellings.{Told}
use Rattle.gl_model.specs.declared.txn.TxnId.{TxnId}
use Rattle.gl_steps.specs.Promises.{waits_on}
use Rattle.gl_steps.specs.Step.{Step}
use Rattle.gl_steps.specs.Tests.{refusal_of}
use Rattle.gl_steps.specs.declared.command.Answer.{Answer}
use Rattle.gl_steps.specs.declared.command.Answer.TheVariants as answer
use Rattle.gl_steps.specs.declared.command.Command.{Command}
use Rattle.gl_steps.specs.declared.command.Command.TheVariants as command
use Rattle.gl_catalog.specs.Manager.{state_of}
use Rattle.gl_catalog.specs.Paths.{Ask, lock_of, path_tests}
use Rattle.gl_catalog.specs.declared.manager.paths.Reached.{Reached}
use Rattle.gl_rows.specs.Applying.{AppliesCall, CarriesOut, answer_in, naming, own_command}
use Rattle.gl_rows.specs.Locking.{Wish}
use Rattle.gl_rows.specs.Releasing.{CommitsAndKeeps, GoesBackTo, no_node}
use Rattle.gl_rows.specs.Serving.{PathLeavesRows, ServesBy, touches_rows}
use Rattle.gl_rows.specs.declared.answer.RowAnswer.{RowAnswer}
use Rattle.gl_rows.specs.declared.call.RowCall.{RowCall}
use Rattle.gl_wakes.specs.Boxes.{verdict_of}
use Rattle.gl_wakes.specs.declared.grant.Grant.{Grant}
use Rattle.gl_wakes.specs.declared.grant.Stop.{Stop}
use Rattle.gl_waiting.specs.Delivering.{Carries, ComesToNothing, Delivered, DeliveryView, registry_in, unlocking}
use Rattle.gl_waiting.specs.Ends.{CallWith, Continues, IsNext}
use Rattle.gl_waiting.specs.Going.{IsRunOf}
use Rattle.gl_waiting.specs.RowTries.{BeginsNoWait, HoldsTried, KeepsQueues, TriesRow}
use Rattle.gl_waiting.specs.Tries.{HoldsAsTried, IsTried, try_of}
use Rattle.gl_waiting.specs.Waiters.{HasWaiter, outcome_of, place_at, place_of, waiter_in}
use Rattle.gl_waiting.specs.Waiting.{WaitingView, delivery_in}
use Rattle.gl_waiting.specs.declared.begins.QueuedBegin.{QueuedBegin}
use Rattle.gl_waiting.specs.declared.begins.Turn.{Turn}
use Rattle.gl_waiting.specs.declared.begins.Turn.TheVariants as turn
use Rattle.gl_waiting.specs.declared.set_off.SetOff.{SetOff}
use Rattle.gl_waiting.specs.declared.tries.Keep.{Keep}
use Rattle.gl_waiting.specs.declared.tries.RowTried.{RowTried}
use Rattle.gl_waiting.specs.declared.tries.Tried.{Tried}
use Rattle.gl_waiting.specs.declared.tries.Tried.TheVariants as tried
use Rattle.gl_waiting.specs.declared.waiter.Came.{Came}
use Rattle.gl_waiting.specs.declared.waiter.Came.TheVariants as came
use Rattle.gl_waiting.specs.declared.waiter.Next.{Next}
use Rattle.gl_waiting.specs.declared.waiter.Outcome.{Outcome}
use Rattle.gl_waiting.specs.declared.waiter.Outcome.TheVariants as end
use Rattle.gl_waiting.specs.declared.waiter.Place.{Place}
use Rattle.gl_waiting.specs.declared.waiter.Place.TheVariants as place
use Rattle.gl_waiting.specs.declared.waiter.Waiter.{Waiter}

-- the waiters and the begin queue stay as they are
abbrev pub KeepsBeside : WaitingView → WaitingView → Type 0
KeepsBeside v v' = (v'.places ≡ v.places) × (v'.queue ≡ v.queue) × (v'.begun ≡ v.begun)

-- nothing was set off
abbrev pub IsNothing : SetOff → Type 0
IsNothing off = HasNoSlot off.ended × (off.went_on ≡ false)

-- a command is carried out, as a registry serves it
pub record Serves (v : WaitingView) (c : Command) (a : Option Answer) (told : Told) (ended : Slots) (v' : WaitingView) : Type 0 where
  pub serves : ServesBy (touches_rows (registry_in (delivery_in v)) c) (registry_in (delivery_in v)) c a told (registry_in (delivery_in v'))
  pub delivers : Carries (delivery_in v) c told ended (delivery_in v')
  pub run : IsRunOf c (state_of v.manager) (state_of v'.manager)
  pub beside : KeepsBeside v v'
  pub nothing : v'.manager.accepted ≡ v.manager.accepted → v' ≡ v

-- a call about rows is carried out, as a registry applies it
pub record ServesRow (v : WaitingView) (c : RowCall) (a : RowAnswer) (told : Told) (ended : Slots) (v' : WaitingView) : Type 0 where
  pub applies : AppliesCall (registry_in (delivery_in v)) c a told (registry_in (delivery_in v'))
  pub own : CarriesOut v.manager (own_command (naming c v.rows v'.rows) c) (answer_in a) told v'.manager
  pub delivers : Carries (delivery_in v) (own_command (naming c v.rows v'.rows) c) told ended (delivery_in v')
  pub run : IsRunOf (own_command (naming c v.rows v'.rows) c) (state_of v.manager) (state_of v'.manager)
  pub beside : KeepsBeside v v'
  pub nothing : v'.manager.accepted ≡ v.manager.accepted → v' ≡ v

-- a path is locked up to its end or to a lock that waits or makes victims, as a registry locks it
pub record LocksPath (v : WaitingView) (t : TxnId) (ask : Ask) (result : Result Reached Refusal) (told : Told) (ended : Slots) (v' : WaitingView)
    : Type 0 where
  pub path : PathLeavesRows t ask (registry_in (delivery_in v)) result told (registry_in (delivery_in v'))
  pub delivers : Carries (delivery_in v) (lock_of t ask) told ended (delivery_in v')
  pub run : IsRunOf (lock_of t ask) (state_of v.manager) (state_of v'.manager)
  pub beside : KeepsBeside v v'
  pub nothing : v'.manager.accepted ≡ v.manager.accepted → v' ≡ v

-- a transaction rolls back to a savepoint, as a registry releases
pub record RollsBackTo (v : WaitingView) (t : TxnId) (mark : ℕ) (result : Result ℕ Refusal) (told : Told) (ended : Slots) (v' : WaitingView) : Type 0 where
  pub back : GoesBackTo t mark v.manager v.rows result told v'.manager v'.rows
  pub delivered : OnOk result (Delivered (delivery_in v) (unlocking t) told ended (delivery_in v'))
  pub refused : OnErr result (ComesToNothing (delivery_in v) told ended (delivery_in v'))
  pub run : IsRunOf (unlocking t) (state_of v.manager) (state_of v'.manager)
  pub beside : KeepsBeside v v'
  pub nothing : OnErr result (v' ≡ v)

-- a transaction commits, and another begins in its slot that keeps its first locks, as a registry does it
pub record KeepsLocks (v : WaitingView) (t : TxnId) (keep since : ℕ) (result : Result (Option TxnId) Refusal) (told : Told) (ended : Slots)
    (v' : WaitingView) : Type 0 where
  pub keeps : CommitsAndKeeps t keep since v.manager v.rows result told v'.manager v'.rows
  pub delivers : Carries (delivery_in v) (command.Commit t) told ended (delivery_in v')
  pub run : IsRunOf (command.Commit t) (state_of v.manager) (state_of v'.manager)
  pub beside : KeepsBeside v v'
  pub nothing : v'.manager.accepted ≡ v.manager.accepted → v' ≡ v

-- a path is tried
pub record TriesThere (v : WaitingView) (t : TxnId) (ask : Ask) (keep : Keep) (result : Tried) (told : Told) (ended : Slots) (v' : WaitingView)
    : Type 0 where
  pub tries : IsTried keep t ask (delivery_in v) result told ended (delivery_in v')
  pub held : HoldsAsTried t ask result (state_of v'.manager)
  pub tests : (r : Refusal) → first_refusal (path_tests (state_of v.manager) t ask.0 ask.1) ≡ Some r
      → (result ≡ tried.Refused r) × (delivery_in v' ≡ delivery_in v)
  pub run : IsRunOf (try_of t ask) (state_of v.manager) (state_of v'.manager)
  pub beside : KeepsBeside v v'
  pub nothing : v'.manager.accepted ≡ v.manager.accepted → v' ≡ v

-- a row is tried
pub record TriesRowThere (v : WaitingView) (w : Wish) (result : RowTried) (told : Told) (ended : Slots) (v' : WaitingView) : Type 0 where
  pub tries : TriesRow w (delivery_in v) result told ended (delivery_in v')
  pub holds : HoldsTried w.txn w.mode result (state_of v'.manager)
  pub waits : BeginsNoWait (state_of v.manager) (state_of v'.manager)
  pub queues : KeepsQueues result (state_of v.manager) (state_of v'.manager)
  pub run : IsRunOf (lock_of w.txn (no_node, w.mode)) (state_of v.manager) (state_of v'.manager)
  pub beside : KeepsBeside v v'
  pub nothing : v'.manager.accepted ≡ v.manager.accepted → v' ≡ v

-- a waiter is registered in its slot, or the wait is over and nothing changes
abbrev pub AwaitsBy : Option (Result Grant Stop) → WaitingView → Waiter → Came → WaitingView → Type 0
AwaitsBy (Some verdict) v w c v' = (c ≡ came.Ended (outcome_of w.at verdict)) × (v' ≡ v)
AwaitsBy None v w c v' = (c ≡ came.Waits w.at w.wanted) × (v' ≡ record v { places = slice_set v.places w.txn.slot (place.Waits w) })

-- a wait is awaited, unless the slot of its transaction has a waiter already
abbrev pub Awaits : WaitingView → Waiter → Option Came → WaitingView → Type 0
Awaits v w None v' = (waiter_in (place_at v.places w.txn.slot) ≢ None) × (v' ≡ v)
Awaits v w (Some c) v' =
    (waiter_in (place_at v.places w.txn.slot) ≡ None) × AwaitsBy (verdict_of (state_of v.manager) v.boxes w.txn w.at w.wanted) v w c v'

-- a waiter is registered that lacks a node above its own, unless its slot has a waiter already, or there is no such slot
abbrev pub Climbs : WaitingView → Waiter → Bool → WaitingView → Type 0
Climbs v w true v' =
    (w.txn.slot < most_slots) × (waiter_in (place_at v.places w.txn.slot) ≡ None)
    × (v' ≡ record v { places = slice_set v.places w.txn.slot (place.GoesOn w None) })
Climbs v w false v' = (w.txn.slot < most_slots → waiter_in (place_at v.places w.txn.slot) ≢ None) × (v' ≡ v)

-- a waiter goes on, by at most one call, and its request came to this
pub record GoesOnBy (v : WaitingView) (t : TxnId) (c : Came) (told : Told) (ended : Slots) (v' : WaitingView) : Type 0 where
  pub waiter : Waiter
  pub next : Next
  pub is_next : IsNext v (Some (waiter, next))
  pub txn : t ≡ waiter.txn
  pub continues : Continues waiter next (delivery_in v) c told (delivery_in v')
  pub call : CallWith t told ended (delivery_in v) (delivery_in v')
  pub places : v'.places ≡ slice_set v.places waiter.txn.slot (place_of waiter c)
  pub queue : v'.queue ≡ v.queue
  pub begun : v'.begun ≡ v.begun

-- the waiter of the lowest slot goes on whose wait is over; nothing changes if there is none
abbrev pub GoesOn : WaitingView → Option (TxnId × Came) → Told → Slots → WaitingView → Type 0
GoesOn v (Some x) told ended v' = GoesOnBy v x.0 x.1 told ended v'
GoesOn v None told ended v' = IsNext v None × (told ≡ []) × HasNoSlot ended × (v' ≡ v)

-- a command was done
abbrev pub is_done : Option Answer → Bool
is_done (Some answer.Done) = true
is_done a = false

-- the end of a wait that was cancelled, since its time is over, and what belongs to its slot then
abbrev pub ends_late : Bool → NodeId → Option Outcome
ends_late true at = Some (end.TimedOut at)
ends_late false at = None

abbrev pub taken_if : Bool → ℕ → List Place → List Place
taken_if true slot places = slice_set places slot place.Empty
taken_if false slot places = places

-- the time of a waiter is over: its wait is cancelled, and it ends so if a command can still be counted
pub record EndsWait (v : WaitingView) (t : TxnId) (w : Waiter) (o : Option Outcome) (told : Told) (ended : Slots) (v' : WaitingView) : Type 0 where
  pub answer : Option Answer
  pub serves : ServesBy false (registry_in (delivery_in v)) (command.Cancel t) answer told (registry_in (delivery_in v'))
  pub cancels : Carries (delivery_in v) (command.Cancel t) told ended (delivery_in v')
  pub ends : o ≡ ends_late (is_done answer) w.at
  pub done : waits_on (state_of v.manager) t w.at ≡ true → v.manager.accepted < max_count → is_done answer ≡ true
  pub places : v'.places ≡ taken_if (is_done answer) t.slot v.places
  pub queue : v'.queue ≡ v.queue
  pub begun : v'.begun ≡ v.begun

-- the time of a transaction's wait is over: nothing changes if it has no waiter
pub record TimesOut (v : WaitingView) (t : TxnId) (o : Option Outcome) (told : Told) (ended : Slots) (v' : WaitingView) : Type 0 where
  pub run : IsRunOf (command.Cancel t) (state_of v.manager) (state_of v'.manager)
  pub waiter : (w : Waiter) → HasWaiter v.places t w → EndsWait v t w o told ended v'
  pub without : ((w : Waiter) → HasWaiter v.places t w → ⊥) → (o ≡ None) × (told ≡ []) × HasNoSlot ended × (v' ≡ v)

-- the waiter of a transaction is removed, whose wait goes on; nothing changes if it has none
pub record WithdrawsWaiter (v : WaitingView) (t : TxnId) (found : Bool) (v' : WaitingView) : Type 0 where
  pub rest : v' ≡ record v { places = v'.places }
  pub waiter : (w : Waiter) → HasWaiter v.places t w → (found ≡ true) × (v' ≡ record v { places = slice_set v.places t.slot place.Empty })
  pub without : ((w : Waiter) → HasWaiter v.places t w → ⊥) → (found ≡ false) × (v' ≡ v)

-- every slot is taken: a begin is refused for that
abbrev pub IsFull : State → Type 0
IsFull s = refusal_of s command.Begin ≡ Some no.TooManyTxns

-- a begin is refused since every slot is taken
abbrev pub is_too_many : Result TxnId Refusal → Bool
is_too_many (Err no.TooManyTxns) = true
is_too_many r = false

-- the command of a begin, for new work or for work since an earlier begin
abbrev pub begin_of : Option ℕ → Command
begin_of None = command.Begin
begin_of (Some since) = command.BeginAgain since

-- what a begin is answered
abbrev pub begin_said : Result TxnId Refusal → Answer
begin_said (Ok t) = answer.Begun t
begin_said (Err r) = answer.Refused r

-- a begin is answered so
abbrev pub IsBeginAnswer : Answer → Type 0
IsBeginAnswer a = (result : Result TxnId Refusal) × (begin_said result ≡ a)

-- a transaction begins; a begin that is refused changes nothing
abbrev pub Begins : WaitingView → Option ℕ → Result TxnId Refusal → Slots → WaitingView → Type 0
Begins v since (Ok t) ended v' = (told : Told) × Serves v (begin_of since) (Some (answer.Begun t)) told ended v'
Begins v since (Err r) ended v' = Step (state_of v.manager) (begin_of since) (answer.Refused r) [] (state_of v.manager) × HasNoSlot ended × (v' ≡ v)

-- nobody waits for a slot while one is free
abbrev pub IsInTurn : WaitingView → Type 0
IsInTurn v = (v.queue ≡ []) ⊎ IsFull (state_of v.manager)

-- a begin in turn came to this: if nobody waits for a slot and one is free it begins, or is refused; else it waits for one, as the last
abbrev pub BeginsInTurn : WaitingView → QueuedBegin → Turn → Slots → WaitingView → Type 0
BeginsInTurn v b (turn.Came result) ended v' = (v.queue ≡ []) × (is_too_many result ≡ false) × Begins v b.since result ended v'
BeginsInTurn v b turn.Queued ended v' = IsFull (state_of v.manager) × HasNoSlot ended × (v' ≡ record v { queue = v.queue ++ b ∷ [] })
BeginsInTurn v b turn.NoMemory ended v' = IsFull (state_of v.manager) × HasNoSlot ended × (v' ≡ v)

-- the first begin that waits for a slot begins, or is refused, and is handed on with its answer
pub record HandsFirst (v v' : WaitingView) : Type 0 where
  pub first : QueuedBegin
  pub is_first : slice_get v.queue 0 ≡ Some first
  pub result : Result TxnId Refusal
  pub answered : is_too_many result ≡ false
  pub ended : Slots
  pub mid : WaitingView
  pub begins : Begins v first.since result ended mid
  pub handed : v' ≡ record mid { queue = drop 1 v.queue; begun = v.begun ++ (first, result) ∷ [] }

-- the first begin is handed on; nothing changes if none waits for a slot, or every slot is taken
abbrev pub BeginsNext : WaitingView → Bool → WaitingView → Type 0
BeginsNext v true v' = HandsFirst v v'
BeginsNext v false v' = IsInTurn v × (v' ≡ v)

-- so many begins are handed on, one after the other
abbrev pub HandsOn : ℕ → WaitingView → WaitingView → Type 0
HandsOn zero v v' = v' ≡ v
HandsOn (suc k) v v' = (mid : WaitingView) × HandsFirst v mid × HandsOn k mid v'

-- begins are handed on, if there are any that can begin
abbrev pub HandsOnIf : Bool → WaitingView → WaitingView → Type 0
HandsOnIf any v v' = (count : ℕ) × HandsOn count v v' × (any ≡ not (count == 0))

-- begins are handed on after a call that ended the waits of these slots
pub record HandsOnAfter (own : Slots) (v : WaitingView) (off : SetOff) (v' : WaitingView) : Type 0 where
  pub count : ℕ
  pub hands : HandsOn count v v'
  pub sets : off ≡ record { ended = own; went_on = not (count == 0) }

-- a call is carried out, and then begins are handed on, none after a call that changes neither the state nor the queue
pub record InTurn (v : WaitingView) (IsCalled : Slots → WaitingView → Type 0) (off : SetOff) (v' : WaitingView) : Type 0 where
  pub own : Slots
  pub mid : WaitingView
  pub called : IsCalled own mid
  pub hands : HandsOnAfter own mid off v'
  pub nothing : mid.manager ≡ v.manager → mid.queue ≡ v.queue → (v' ≡ mid) × (off ≡ record { ended = own; went_on = false })
