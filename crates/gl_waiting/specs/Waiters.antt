-- The waiters of a table, and how their waits end.
use Rattle.gl_slots.specs.Limit.{most_slots}
use Rattle.std.specs.Prelude.{min, ◌≡◌, ℕ, ◌<◌, ◌&&◌, not, Bool, true, false, List, Option, Some, None, Result, Ok, Err, slice_index_or}
use Rattle.std.specs.Prelude.{if◌then◌else◌}
use Rattle.std.specs.List.{filter_map, position, reduce}
use Rattle.gl_waiting.specs.Begins.{is_over}
use Rattle.gl_modes.specs.Nodes.{same_node}
use Rattle.gl_modes.specs.declared.mode.Mode.{Mode}
use Rattle.gl_modes.specs.declared.node.NodeId.{NodeId}
use Rattle.gl_modes.specs.declared.refusal.Refusal.{Refusal}
use Rattle.gl_model.specs.State.{State, lives, status_of}
use Rattle.gl_modes.specs.declared.refusal.Refusal.TheVariants as no
use Rattle.gl_catalog.specs.Replies.{wait_of}
use Rattle.gl_rows.specs.declared.row.Row.{Row}
use Rattle.gl_rows.specs.Releasing.{no_node}
use Rattle.gl_waiting.specs.declared.keys.RowKeys.{RowKeys}
use Rattle.gl_waiting.specs.declared.waiter.Came.{Came}
use Rattle.gl_waiting.specs.declared.waiter.Came.TheVariants as came
use Rattle.gl_model.specs.declared.answers.Locked.{Locked}
use Rattle.gl_model.specs.declared.answers.Locked.TheVariants as locked
use Rattle.gl_model.specs.declared.txn.TxnId.{TxnId}
use Rattle.gl_catalog.specs.declared.manager.paths.Reached.{Reached}
use Rattle.gl_steps.specs.Promises.{waits_on}
use Rattle.gl_wakes.specs.Boxes.{Slot, verdict_of}
use Rattle.gl_wakes.specs.declared.grant.Grant.{Grant}
use Rattle.gl_wakes.specs.declared.grant.Stop.{Stop}
use Rattle.gl_wakes.specs.declared.grant.Stop.TheVariants as stop
use Rattle.gl_waiting.specs.declared.waiter.Next.{Next}
use Rattle.gl_waiting.specs.declared.waiter.Next.TheVariants as next
use Rattle.gl_waiting.specs.declared.waiter.Outcome.{Outcome}
use Rattle.gl_waiting.specs.declared.waiter.Outcome.TheVariants as end
use Rattle.gl_waiting.specs.declared.waiter.Place.{Place}
use Rattle.gl_waiting.specs.declared.waiter.Place.TheVariants as place
use Rattle.gl_waiting.specs.declared.waiter.Request.{Request}
use Rattle.gl_waiting.specs.declared.waiter.Request.TheVariants as request
use Rattle.gl_waiting.specs.declared.waiter.Waiter.{Waiter}

-- what belongs to a slot
abbrev pub place_at : List Place → ℕ → Place
place_at places u = slice_index_or places u place.Empty

-- the end of a wait for this node, by what became of it
abbrev pub outcome_of : NodeId → Result Grant Stop → Outcome
outcome_of at (Ok grant) = end.Granted grant.mode
outcome_of at (Err stop.Victim) = end.Victim at
outcome_of at (Err stop.Moved) = end.Moved at
outcome_of at (Err stop.Gone) = end.Gone at
outcome_of at (Err (stop.Refused r)) = end.Refused r

-- a node was granted
abbrev pub is_granted_so : Outcome → Bool
is_granted_so (end.Granted mode) = true
is_granted_so (end.RowGranted node mode) = false
is_granted_so (end.OtherKeys node mode) = false
is_granted_so (end.Victim at) = false
is_granted_so (end.Moved at) = false
is_granted_so (end.Gone at) = false
is_granted_so (end.Refused r) = false
is_granted_so end.NotRows = false
is_granted_so (end.TimedOut at) = false

-- a path has more to lock: it was granted a node above its own, or the node has other parents now
abbrev pub has_more : NodeId → NodeId → Result Grant Stop → Bool
has_more node at (Ok grant) = if same_node at node then false else true
has_more node at (Err stop.Moved) = true
has_more node at (Err x) = false

-- a request ends so; one for an instant that was granted gives its lock back first
abbrev pub closing : Bool → Outcome → Next
closing instant outcome = if instant && is_granted_so outcome then next.GiveBack outcome else next.End outcome

-- what comes after a wait for a row: a row that was granted is locked again, to compare its keys, and any other request ends
abbrev pub next_of_row : Row → RowKeys → Mode → NodeId → Result Grant Stop → Next
next_of_row row keys mode at (Ok grant) = next.LockAgain row keys mode grant.mode
next_of_row row keys mode at (Err x) = next.End (outcome_of at (Err x))

-- what comes after a wait for a row or for a node above it: the row is locked if the node was granted, or has other parents or keys now
abbrev pub next_of_row_path : Row → RowKeys → Mode → NodeId → Result Grant Stop → Next
next_of_row_path row keys mode at (Ok grant) = next.LockRow row keys mode
next_of_row_path row keys mode at (Err stop.Moved) = next.LockRow row keys mode
next_of_row_path row keys mode at (Err x) = next.End (outcome_of at (Err x))

-- what comes after a wait for this node: a path that has more to lock goes on, a row that was granted is locked again, and any other request ends
abbrev pub next_after : Request → Bool → NodeId → Result Grant Stop → Next
next_after (request.Node node mode) instant at verdict = closing instant (outcome_of at verdict)
next_after (request.Path node mode) instant at verdict =
    if has_more node at verdict then next.GoOn node mode else closing instant (outcome_of at verdict)
next_after (request.Row row keys mode) instant at verdict = next_of_row row keys mode at verdict
next_after (request.RowPath row keys mode) instant at verdict = next_of_row_path row keys mode at verdict

-- the same of a waiter
abbrev pub next_of : Waiter → Result Grant Stop → Next
next_of w verdict = next_after w.request w.instant w.at verdict

-- a waiter was granted the node for which it waited, in this mode
abbrev pub granted_to : Waiter → Mode → Result Grant Stop
granted_to w mode = Ok (record { txn = w.txn; node = w.at; mode = mode })

-- what a waiter goes on with: by its grant, if it was granted its node; else it requests that
abbrev pub goes_on_with : Waiter → Option Mode → Next
goes_on_with w (Some mode) = next_of w (granted_to w mode)
goes_on_with w None = next.GoOn w.at w.wanted

-- what a waiter does next by what became of its wait; `None` if it waits on
abbrev pub by_verdict : Waiter → Option (Result Grant Stop) → Option (Waiter × Next)
by_verdict w (Some verdict) = Some (w, next_of w verdict)
by_verdict w None = None

-- what the waiter of a slot does next; `None` if it waits on, or the slot has none
abbrev pub next_in : State → List Slot → Place → Option (Waiter × Next)
next_in s boxes (place.Waits w) = by_verdict w (verdict_of s boxes w.txn w.at w.wanted)
next_in s boxes (place.GoesOn w granted) = Some (w, goes_on_with w granted)
next_in s boxes place.Empty = None

-- the waiter of a slot
abbrev pub waiter_in : Place → Option Waiter
waiter_in (place.Waits w) = Some w
waiter_in (place.GoesOn w granted) = Some w
waiter_in place.Empty = None

-- if the slot has a waiter, that waits for its node
abbrev pub WaitsStill : State → Place → Type 0
WaitsStill s (place.Waits w) = waits_on s w.txn w.at ≡ true
WaitsStill s (place.GoesOn w granted) = ⊥
WaitsStill s place.Empty = Unit {0}

-- each waiter has the slot of its transaction, and waits for its node unless its slot is due
pub record KnowsDue (due : ℕ → Bool) (s : State) (places : List Place) : Type 0 where
  pub own : (u : ℕ) (w : Waiter) → waiter_in (place_at places u) ≡ Some w → (w.txn.slot ≡ u) × (u < most_slots)
  pub still : (u : ℕ) → due u ≡ false → WaitsStill s (place_at places u)

-- for what a transaction waits
abbrev pub waits_for_node : Option (NodeId × Mode) → Came
waits_for_node (Some x) = came.Waits x.0 x.1
waits_for_node None = came.Ended (end.Refused no.NotWaiting)

-- the same of a transaction of a state
abbrev pub waits_as : State → TxnId → Came
waits_as s t = waits_for_node (if lives s t then wait_of (status_of s t.slot) else None)

-- a path that was granted this node has ended, if the node is its own and its lock is to stay
abbrev pub holds_or_ends : Bool → NodeId → Mode → Came
holds_or_ends true at mode = came.Ended (end.Granted mode)
holds_or_ends false at mode = came.Holds at mode

-- what a request for this node with what must be held above it came to, by its last lock, that of a node of it
abbrev pub came_as : State → TxnId → NodeId → Bool → NodeId → Locked → Came
came_as s t node instant at (locked.Granted mode) = holds_or_ends (same_node at node && not instant) at mode
came_as s t node instant at locked.Victim = came.Ended (end.Victim at)
came_as s t node instant at locked.Waiting = waits_as s t

-- the same where it may be refused
abbrev pub came_of : State → TxnId → NodeId → Bool → Result Reached Refusal → Came
came_of s t node instant (Ok x) = came_as s t node instant x.node x.locked
came_of s t node instant (Err r) = came.Ended (end.Refused r)

-- what belongs to the slot of a waiter whose request came to this
abbrev pub place_of : Waiter → Came → Place
place_of w (came.Ended outcome) = place.Empty
place_of w (came.Waits at wanted) = place.Waits (record w { at = at; wanted = wanted })
place_of w (came.Holds at mode) = place.GoesOn (record w { at = at }) (Some mode)
place_of w (came.Lacks at wanted) = place.GoesOn (record w { at = at; wanted = wanted }) None

-- a request holds a node of its path, or lacks one, and goes on with the next call
abbrev pub goes_on : Came → Bool
goes_on (came.Holds at mode) = true
goes_on (came.Lacks at wanted) = true
goes_on (came.Waits at wanted) = false
goes_on (came.Ended outcome) = false

-- the transaction has a waiter
abbrev pub HasWaiter : List Place → TxnId → Waiter → Type 0
HasWaiter places t w = (waiter_in (place_at places t.slot) ≡ Some w) × (w.txn ≡ t)

-- when the wait of a slot ends at the latest
abbrev pub until_by : Option Waiter → Option ℕ
until_by (Some w) = w.until
until_by None = None

abbrev pub until_in : Place → Option ℕ
until_in p = until_by (waiter_in p)

-- the earliest of these times
abbrev pub earliest_until : List Place → Option ℕ
earliest_until places = reduce min (filter_map until_in places)

-- the transaction of a slot's waiter
abbrev pub txn_by : Option Waiter → Option TxnId
txn_by (Some w) = Some w.txn
txn_by None = None

abbrev pub txn_at : List Place → Option ℕ → Option TxnId
txn_at places (Some u) = txn_by (waiter_in (place_at places u))
txn_at places None = None

-- the transaction whose wait should have ended by now, that of the lowest slot
abbrev pub first_late : ℕ → List Place → Option TxnId
first_late now places = txn_at places (position (λ p. is_over now (until_in p)) places)

-- the node that is requested; a request for a row names none
abbrev pub node_in : Request → NodeId
node_in (request.Node node mode) = node
node_in (request.Path node mode) = node
node_in (request.Row row keys mode) = no_node
node_in (request.RowPath row keys mode) = no_node
