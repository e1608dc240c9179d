-- What becomes of the rows of one slot that has rows left. For the crate.
use Rattle.std.specs.Prelude.{◌≡◌, ◌≢◌, ℕ, not, ◌&&◌, ◌||◌, ◌==◌, is_some}
use Rattle.gl_slots.specs.Slots.{has_slot}
use Rattle.gl_catalog.specs.Manager.{ManagerView, state_of}
use Rattle.gl_rows.specs.Locking.{SameAccount}
use Rattle.gl_rows.specs.Releasing.{LetsEachGo}
use Rattle.gl_rows.specs.Rows.{RowsView, has_any, has_asked, name_of, rows_at}
use Rattle.gl_rows.specs.declared.row.Row.{Row}

-- the slot's rows are let go. It keeps those that still have a node, and is one with rows left while it has any
pub record LetsGoIn (m : ManagerView) (v : RowsView) (slot : ℕ) (m' : ManagerView) (v' : RowsView) : Type 0 where
  pub goes : LetsEachGo (state_of m) v.names (rows_at v slot) (state_of m') v'.names
  pub account : SameAccount m m'
  pub files : v'.files ≡ v.files
  pub asked : (w : ℕ) (q : Row) → has_asked v' w q ≡ (has_asked v w q && (not (w == slot) || is_some (name_of v' q)))
  pub others : (w : ℕ) → w ≢ slot → rows_at v' w ≡ rows_at v w
  pub left : (w : ℕ) → has_slot v'.left w ≡ (has_slot v.left w && (not (w == slot) || has_any v' w))
