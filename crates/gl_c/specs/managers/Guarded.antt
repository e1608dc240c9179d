-- What a contract sees of all that C's mutex protects.
use Rattle.std.specs.Prelude.{List, Option}
use Rattle.gl_slots.specs.declared.slots.Slots.{Slots}
use Rattle.gl_catalog.specs.Manager.{ManagerView}
use Rattle.gl_rows.specs.Rows.{RowsView}
use Rattle.gl_waiting.specs.Begins.{Begun}
use Rattle.gl_waiting.specs.Waiting.{WaitingView}
use Rattle.gl_waiting.specs.declared.begins.QueuedBegin.{QueuedBegin}
use Rattle.gl_waiting.specs.declared.waiter.Place.{Place}
use Rattle.gl_wakes.specs.Boxes.{Slot}
use Rattle.gl_window.specs.Strip.{Strip}

-- the table of waiters (the manager, the files of rows with the locked rows, a notice box and a place for each slot, and the begin queue), the slots of
-- those who rest, the slots whose wait
-- the last counted call may have ended, the snapshots that watchers were shown, if there ever was one, and all parties to waits, if it is known that the last
-- snapshot has every wait
pub record GuardedView : Type 0 where
  pub manager : ManagerView
  pub rows : RowsView
  pub boxes : List Slot
  pub places : List Place
  pub queue : List QueuedBegin
  pub begun : List Begun
  pub resting : Slots
  pub ended : Slots
  pub shown : Option Strip
  pub parties : Option Slots

-- the table of waiters
abbrev pub waiting_in : GuardedView → WaitingView
waiting_in g = record { manager = g.manager; rows = g.rows; boxes = g.boxes; places = g.places; queue = g.queue; begun = g.begun }

-- this table of waiters in place of its own
abbrev pub with_waiting : GuardedView → WaitingView → GuardedView
with_waiting g v =
    record g { manager = v.manager; rows = v.rows; boxes = v.boxes; places = v.places; queue = v.queue; begun = v.begun }
