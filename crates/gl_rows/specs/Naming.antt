-- What a row's lock does to the nodes of rows alone. For the crate.
use Rattle.std.specs.Prelude.{◌≡◌, ℕ, ◌&&◌, ◌||◌, ◌==◌, List, Result, Ok, Err}
use Rattle.gl_modes.specs.declared.node.NodeId.{NodeId}
use Rattle.gl_slots.specs.declared.slots.Slots.{Slots}
use Rattle.gl_model.specs.Tellings.{Told}
use Rattle.gl_catalog.specs.Manager.{ManagerView}
use Rattle.gl_rows.specs.declared.answer.RowLocked.{RowLocked}
use Rattle.gl_rows.specs.declared.answer.RowRefusal.{RowRefusal}
use Rattle.gl_rows.specs.declared.row.Row.{Row}
use Rattle.gl_rows.specs.Locking.{LocksRow, Names, Wish}
use Rattle.gl_rows.specs.Rows.{RowsView, has_asked, same_row}

-- files and nodes, with the rows of each slot, and the slots with rows left
abbrev pub with_asked : List NodeId → Names → List (List Row) → Slots → RowsView
with_asked files ns asked left = record { files = files; names = ns; asked = asked; left = left }

-- unless it was refused, the slot's transaction has now asked for the row; else nothing changes
abbrev pub Asks : {A : Type 0} {R : Type 0} → Result A R → ℕ → Row → RowsView → RowsView → Type 0
Asks (Ok x) slot row v v' = (u : ℕ) (q : Row) → has_asked v' u q ≡ (has_asked v u q || ((u == slot) && same_row q row))
Asks (Err r) slot row v v' = v'.asked ≡ v.asked

-- a row is locked, leaving aside the rows asked for
abbrev pub LocksName : ManagerView → List NodeId → Names → Wish → Result RowLocked RowRefusal → Told → ManagerView → Names → Type 0
LocksName m files ns w result told m' ns' =
    (asked asked' : List (List Row)) (left : Slots) → Asks result w.txn.slot w.row (with_asked files ns asked left) (with_asked files ns' asked' left)
    → LocksRow m (with_asked files ns asked left) w result told m' (with_asked files ns' asked' left)
