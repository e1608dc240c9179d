-- What a contract sees of the fields, and what holds of them. For the crate.
use Rattle.std.specs.Prelude.{◌+◌, ◌≤◌, List}
use Rattle.std.specs.VecDeque.{deque_capacity, deque_len}
use Rattle.gl_slots.specs.Slots.{has_slot}
use Rattle.gl_waiting.specs.declared.delivery.Delivery.TheInside.{Inside}
use Rattle.gl_waiting.specs.declared.places.Places.TheInside.{Inside as PlacesInside}
use Rattle.gl_waiting.specs.declared.waiter.Place.{Place}
use Rattle.gl_waiting.specs.declared.begins.BeginQueue.TheInside.{Inside as BeginsInside}
use Rattle.gl_waiting.specs.declared.waiter_table.WaiterTable.TheInside.{Inside as TableInside}
use Rattle.gl_waiting.specs.declared.waiting.Waiting.TheInside.{Inside as WaitingInside}
use Rattle.gl_waiting.specs.Asking.{IsInTurn}
use Rattle.gl_waiting.specs.Begins.{BeginsView}
use Rattle.gl_catalog.specs.Manager.{state_of}
use Rattle.gl_waiting.specs.Delivering.{DeliveryView}
use Rattle.gl_waiting.specs.Waiters.{KnowsDue}
use Rattle.gl_waiting.specs.Resting.{RestingView}
use Rattle.gl_waiting.specs.Waiting.{WaitingView}
use Rattle.gl_waiting.specs.declared.resting.Resting.TheInside.{Inside as RestingInside}

abbrev pub delivery_of : Inside → DeliveryView
delivery_of d = record { manager = d.registry.manager; rows = d.registry.rows; boxes = d.boxes }

abbrev pub places_of : PlacesInside → List Place
places_of p = p.places

abbrev pub begins_of : BeginsInside → BeginsView
begins_of q = record { waiting = q.waiting.items; begun = q.begun.items }

-- there is room to hand on all that wait
abbrev pub HasRoom : BeginsInside → Type 0
HasRoom q = deque_len q.waiting + deque_len q.begun ≤ deque_capacity q.begun

abbrev pub table_of : TableInside → WaitingView
table_of w =
    record {
      manager = w.delivery.manager;
      rows = w.delivery.rows;
      boxes = w.delivery.boxes;
      places = w.places;
      queue = w.begins.waiting;
      begun = w.begins.begun;
    }

-- each waiter waits whose slot is not due
abbrev pub IsAwaited : TableInside → Type 0
IsAwaited w = KnowsDue (has_slot w.due) (state_of w.delivery.manager) w.places

abbrev pub waiting_of : WaitingInside → WaitingView
waiting_of w = w.table

-- nobody waits for a slot while one is free
abbrev pub HandsOnInTurn : WaitingInside → Type 0
HandsOnInTurn w = IsInTurn w.table

abbrev pub resting_of : RestingInside → RestingView
resting_of r = record { resting = r.slots; crossed = r.crossed }
