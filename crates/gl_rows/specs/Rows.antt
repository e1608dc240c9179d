-- Rows, and what a contract sees of a registry.
use Rattle.std.specs.Prelude.{ℕ, Bool, true, ◌&&◌, ◌==◌, List, [], Option, flat_map, get_or, slice_set}
use Rattle.std.specs.List.{list_any}
use Rattle.std.specs.Map.{lookup}
use Rattle.gl_modes.specs.Nodes.{same_node}
use Rattle.gl_modes.specs.declared.node.NodeId.{NodeId}
use Rattle.gl_slots.specs.declared.slots.Slots.{Slots}
use Rattle.gl_slots.specs.Slots.{slots_of}
use Rattle.gl_catalog.specs.Manager.{ManagerView}
use Rattle.gl_rows.specs.declared.row.Row.{Row}

-- the same row
abbrev pub same_row : Row → Row → Bool
same_row a b = same_node a.file b.file && (a.number == b.number)

-- the files of rows, the node of each row that has one, for each slot the rows that its transaction asked for, and the slots whose rows include some that an
-- earlier transaction left: it ended while others held their nodes or waited for them
pub record RowsView : Type 0 where
  pub files : List NodeId
  pub names : List (Row × NodeId)
  pub asked : List (List Row)
  pub left : Slots

-- a registry: a manager, and its rows
pub record RegistryView : Type 0 where
  pub manager : ManagerView
  pub rows : RowsView

-- the node is a file of rows
abbrev pub has_rows : RowsView → NodeId → Bool
has_rows v file = list_any (same_node file) v.files

-- the row's node, if it has one
abbrev pub name_of : RowsView → Row → Option NodeId
name_of v row = lookup (same_row row) v.names

-- the rows of a slot: those that its transaction asked for, and those that earlier ones left
abbrev pub rows_at : RowsView → ℕ → List Row
rows_at v slot = get_or v.asked slot []

-- the slot has the row: its transaction asked for it, or an earlier one left it
abbrev pub has_asked : RowsView → ℕ → Row → Bool
has_asked v slot row = list_any (same_row row) (rows_at v slot)

-- the slot has a row
abbrev pub has_any : RowsView → ℕ → Bool
has_any v slot = list_any (λ q. true) (rows_at v slot)

-- the rows of all slots with rows left
abbrev pub rows_left : RowsView → List Row
rows_left v = flat_map (rows_at v) (slots_of v.left)

-- the row is in one of these sets
abbrev pub is_in_any : List (List Row) → Row → Bool
is_in_any sets row = list_any (λ rows. list_any (same_row row) rows) sets

-- another slot has the row
abbrev pub asked_beside : RowsView → ℕ → Row → Bool
asked_beside v slot row = is_in_any (slice_set v.asked slot []) row
