-- Waiters of requests: how each is registered, and how its wait ends.
use Rattle.std.specs.Prelude.{◌≡◌, ◌==◌, ℕ, Bool, true, false, not, Option, Some, None, if◌then◌else◌}
use Rattle.gl_modes.specs.declared.mode.Mode.{Mode}
use Rattle.gl_model.specs.declared.answers.Locked.TheVariants as locked
use Rattle.gl_model.specs.declared.txn.TxnId.{TxnId}
use Rattle.gl_steps.specs.declared.command.Answer.TheVariants as answer
use Rattle.gl_catalog.specs.Paths.{intention}
use Rattle.gl_waiting.specs.Asking.{Awaits, Climbs, GoesOn, InTurn, TimesOut, WithdrawsWaiter}
use Rattle.gl_waiting.specs.Ends.{HasNext, IsNext, earliest_time}
use Rattle.gl_waiting.specs.Resting.{Rouses}
use Rattle.gl_waiting.specs.Waiters.{first_late, node_in}
use Rattle.gl_waiting.specs.declared.keys.RowKeys.{RowKeys}
use Rattle.gl_waiting.specs.declared.waiter.Came.{Came}
use Rattle.gl_waiting.specs.declared.waiter.Came.TheVariants as came
use Rattle.gl_waiting.specs.declared.waiter.Next.{Next}
use Rattle.gl_waiting.specs.declared.waiter.Next.TheVariants as next
use Rattle.gl_waiting.specs.declared.waiter.Outcome.{Outcome}
use Rattle.gl_waiting.specs.declared.waiter.Outcome.TheVariants as end
use Rattle.gl_waiting.specs.declared.waiter.Request.TheVariants as request
use Rattle.gl_waiting.specs.declared.waiter.Waiter.{Waiter}
use Rattle.gl_c.specs.declared.answers.reply.Reply.{Reply}
use Rattle.gl_c.specs.declared.names.Node.{Node}
use Rattle.gl_c.specs.declared.names.Txn.{Txn}
use Rattle.gl_c.specs.managers.Carries.{CallOf, Declines, acts}
use Rattle.gl_c.specs.managers.Guarded.{GuardedView, waiting_in}
use Rattle.gl_c.specs.answers.Replies.{count_reply, refused_reply, reply_of, status_reply}
use Rattle.gl_c.specs.locks.Paths.{reply_at}
use Rattle.gl_c.specs.locks.Rows.{row_lock_status}
use Rattle.gl_c.specs.locks.Turns.{found_reply}
use Rattle.gl_c.specs.Names.{node_id, row_at, txn_id, txn_of}
use Rattle.gl_c.specs.Numbers.{done, given_at, gone, in_use, mode_number, moved, no_manager, no_place, not_rows, on_the_way, timed_out, victim, waiting}

-- C says of a flag that it is set
abbrev pub is_set : ℕ → Bool
is_set flag = not (flag == 0)

-- the waiter of a node, as C names it
abbrev pub node_waiter : Txn → Node → Mode → ℕ → ℕ → Waiter
node_waiter t n mode instant until = record {
  txn = txn_id t;
  request = request.Node (node_id n) mode;
  instant = is_set instant;
  at = node_id n;
  wanted = mode;
  until = given_at until;
}

-- the waiter of a path, which waits for this node of it in this mode
abbrev pub path_waiter : Txn → Node → Mode → ℕ → Node → Mode → ℕ → Waiter
path_waiter t n mode instant at wanted until = record {
  txn = txn_id t;
  request = request.Path (node_id n) mode;
  instant = is_set instant;
  at = node_id at;
  wanted = wanted;
  until = given_at until;
}

-- the waiter of a row, which waits for this node of it
abbrev pub row_waiter : Txn → Node → ℕ → RowKeys → Mode → Node → ℕ → Waiter
row_waiter t file number keys mode at until = record {
  txn = txn_id t;
  request = request.Row (row_at file number) keys mode;
  instant = false;
  at = node_id at;
  wanted = mode;
  until = given_at until;
}

-- the waiter of a row, which waits for this node of it, with what must be held above it
abbrev pub row_path_waiter : Txn → Node → ℕ → RowKeys → Mode → Node → ℕ → Waiter
row_path_waiter t file number keys mode at until = record {
  txn = txn_id t;
  request = request.RowPath (row_at file number) keys mode;
  instant = false;
  at = node_id at;
  wanted = mode;
  until = given_at until;
}

-- the same for a row that lacks this node above it
abbrev pub row_climber : Txn → Node → ℕ → RowKeys → Mode → Node → ℕ → Waiter
row_climber t file number keys mode parent until = record (row_path_waiter t file number keys mode parent until) { wanted = intention mode }

-- the reply for the end of a wait; if it was not granted, with the node for which it waited
abbrev pub outcome_reply : Outcome → Reply
outcome_reply (end.Granted m) = reply_of (answer.Granted m)
outcome_reply (end.RowGranted n m) = reply_at n (row_lock_status (locked.Granted m) true)
outcome_reply (end.OtherKeys n m) = reply_at n (row_lock_status (locked.Granted m) false)
outcome_reply (end.Victim n) = reply_at n (status_reply victim)
outcome_reply (end.Moved n) = reply_at n (status_reply moved)
outcome_reply (end.Gone n) = reply_at n (status_reply gone)
outcome_reply (end.Refused r) = refused_reply r
outcome_reply end.NotRows = status_reply not_rows
outcome_reply (end.TimedOut n) = reply_at n (status_reply timed_out)

-- the reply for what a request came to: it has ended; it waits for this node in this mode; or it holds or lacks this node, and goes on
abbrev pub came_reply : Came → Reply
came_reply (came.Ended outcome) = outcome_reply outcome
came_reply (came.Waits at wanted) = reply_at at (record (status_reply waiting) { mode = mode_number wanted })
came_reply (came.Holds at m) = reply_at at (record (status_reply on_the_way) { mode = mode_number m })
came_reply (came.Lacks at wanted) = reply_at at (record (status_reply on_the_way) { mode = mode_number wanted })

-- the reply to who awaits a request: it waits, or its wait is over, or its slot has a waiter already
abbrev pub awaited_reply : Option Came → Reply
awaited_reply (Some c) = came_reply c
awaited_reply None = status_reply in_use

-- a waiter is registered
pub record AwaitsThere (g : GuardedView) (w : Waiter) (r : Reply) (g' : GuardedView) : Type 0 where
  pub came : Option Came
  pub awaits : Awaits (waiting_in g) w came (waiting_in g')
  pub rest : g' ≡ record g { places = g'.places }
  pub replied : r ≡ awaited_reply came

-- the same, if there is a manager
abbrev pub AwaitsIn : Option GuardedView → Waiter → Reply → Option GuardedView → Type 0
AwaitsIn None w r s' = Declines None no_manager r s'
AwaitsIn (Some g) w r s' = (g' : GuardedView) × (s' ≡ Some g') × AwaitsThere g w r g'

-- the waiter of a request is registered that lacks a node above its own
pub record ClimbsThere (g : GuardedView) (w : Waiter) (r : Reply) (g' : GuardedView) : Type 0 where
  pub registered : Bool
  pub climbs : Climbs (waiting_in g) w registered (waiting_in g')
  pub rest : g' ≡ record g { places = g'.places }
  pub replied : r ≡ found_reply registered

-- the same, if there is a manager
abbrev pub ClimbsIn : Option GuardedView → Waiter → Reply → Option GuardedView → Type 0
ClimbsIn None w r s' = Declines None no_manager r s'
ClimbsIn (Some g) w r s' = (g' : GuardedView) × (s' ≡ Some g') × ClimbsThere g w r g'

-- the waiter of a transaction is removed
pub record WithdrawsThere (g : GuardedView) (t : TxnId) (r : Reply) (g' : GuardedView) : Type 0 where
  pub found : Bool
  pub withdraws : WithdrawsWaiter (waiting_in g) t found (waiting_in g')
  pub rest : g' ≡ record g { places = g'.places }
  pub replied : r ≡ found_reply found

-- the same, if there is a manager
abbrev pub WithdrawsIn : Option GuardedView → TxnId → Reply → Option GuardedView → Type 0
WithdrawsIn None t r s' = Declines None no_manager r s'
WithdrawsIn (Some g) t r s' = (g' : GuardedView) × (s' ≡ Some g') × WithdrawsThere g t r g'

-- the reply for a waiter that went on: its transaction, what its request came to, and 1 if the wait of a waiter is over after that
abbrev pub on_reply : Option (TxnId × Came) → Bool → Reply
on_reply (Some x) over = record (came_reply x.1) { txn = txn_of x.0; count = if over then 1 else 0 }
on_reply None over = status_reply no_place

-- the slot of the waiter that went on
abbrev pub on_slot : Option (TxnId × Came) → Option ℕ
on_slot (Some x) = Some x.0.slot
on_slot None = None

-- the call by which the waiter of the lowest slot goes on whose wait is over; and whether the wait of a waiter is over after it
abbrev pub on_call : CallOf (Option (TxnId × Came) × Bool)
on_call = record {
  does = λ v o told off v'. InTurn v (λ ended mid. GoesOn v o.0 told ended mid) off v' × HasNext v' o.1;
  spares = λ o told known. false;
  says = λ o. on_reply o.0 o.1;
  rests = λ v o v' r r'. Rouses (on_slot o.0) v r v' r';
}

-- the reply for a wait that was cancelled since its time is over
abbrev pub late_reply : Option Outcome → Reply
late_reply (Some outcome) = outcome_reply outcome
late_reply None = status_reply no_place

-- the call that cancels the wait of a transaction whose time is over
abbrev pub late_call : TxnId → CallOf (Option Outcome)
late_call t = record {
  does = λ v o told off v'. InTurn v (λ ended mid. TimesOut v t o told ended mid) off v';
  spares = λ o told known. false;
  says = late_reply;
  rests = acts (Some t.slot);
}

-- the reply for what a waiter does next: a number for it, its node, and its mode
abbrev pub next_by : Waiter → Next → Reply
next_by w (next.End outcome) = count_reply 0
next_by w (next.GiveBack outcome) = reply_at (node_in w.request) (count_reply 1)
next_by w (next.GoOn n m) = reply_at n (record (count_reply 2) { mode = mode_number m })
next_by w (next.LockAgain row keys m granted) = reply_at w.at (record (count_reply 3) { mode = mode_number m })
next_by w (next.LockRow row keys m) = reply_at w.at (record (count_reply 4) { mode = mode_number m })

-- the same with its transaction; nobody goes on if no wait is over
abbrev pub next_reply : Option (Waiter × Next) → Reply
next_reply (Some x) = record (next_by x.0 x.1) { txn = txn_of x.0.txn }
next_reply None = status_reply no_place

-- a question about who goes on next
pub record LooksNext (g : GuardedView) (r : Reply) : Type 0 where
  pub next : Option (Waiter × Next)
  pub is_next : IsNext (waiting_in g) next
  pub replied : r ≡ next_reply next

-- the same, if there is a manager: nothing changes
abbrev pub NextIn : Option GuardedView → Reply → Option GuardedView → Type 0
NextIn None r s' = Declines None no_manager r s'
NextIn (Some g) r s' = LooksNext g r × (s' ≡ Some g)

-- the reply with a transaction whose wait should have ended
abbrev pub txn_reply : Option TxnId → Reply
txn_reply (Some t) = record (status_reply done) { txn = txn_of t }
txn_reply None = status_reply no_place

-- a question for the transaction of the lowest slot whose wait should have ended by now: nothing changes
abbrev pub FindsWaitLate : Option GuardedView → ℕ → Reply → Option GuardedView → Type 0
FindsWaitLate None now r s' = Declines None no_manager r s'
FindsWaitLate (Some g) now r s' = (r ≡ txn_reply (first_late now g.places)) × (s' ≡ Some g)

-- the reply with the earliest time at which a wait ends, for a lock or for a slot
abbrev pub time_reply : Option ℕ → Reply
time_reply (Some n) = count_reply n
time_reply None = status_reply no_place

-- a question for that time: nothing changes
abbrev pub FindsTime : Option GuardedView → Reply → Option GuardedView → Type 0
FindsTime None r s' = Declines None no_manager r s'
FindsTime (Some g) r s' = (r ≡ time_reply (earliest_time (waiting_in g))) × (s' ≡ Some g)
