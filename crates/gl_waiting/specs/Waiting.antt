-- What a contract sees of a table of waiters.
use Rattle.std.specs.Prelude.{List}
use Rattle.gl_catalog.specs.Manager.{ManagerView}
use Rattle.gl_rows.specs.Rows.{RowsView}
use Rattle.gl_wakes.specs.Boxes.{Slot}
use Rattle.gl_waiting.specs.Begins.{Begun}
use Rattle.gl_waiting.specs.declared.begins.QueuedBegin.{QueuedBegin}
use Rattle.gl_waiting.specs.declared.waiter.Place.{Place}
use Rattle.gl_waiting.specs.Delivering.{DeliveryView}

-- a registry with its notice boxes, what belongs to each slot, and the begins that wait for a slot, and that were handed on, the first first
pub record WaitingView : Type 0 where
  pub manager : ManagerView
  pub rows : RowsView
  pub boxes : List Slot
  pub places : List Place
  pub queue : List QueuedBegin
  pub begun : List Begun

-- the registry with its notice boxes
abbrev pub delivery_in : WaitingView → DeliveryView
delivery_in v = record { manager = v.manager; rows = v.rows; boxes = v.boxes }
