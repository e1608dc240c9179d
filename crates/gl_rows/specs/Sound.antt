-- What a contract sees of the fields of rows, and what holds of them always. For the crate.
use Rattle.std.specs.Prelude.{◌≡◌, ◌<◌, ℕ, Bool, List, [], Some, get_or, length, map, slice_get}
use Rattle.std.specs.List.{list_any}
use Rattle.indexmap.specs.IndexSet.{IndexSet, spare}
use Rattle.gl_slots.specs.Limit.{most_slots}
use Rattle.gl_slots.specs.declared.slots.Slots.{Slots}
use Rattle.gl_modes.specs.declared.node.NodeId.{NodeId}
use Rattle.gl_rows.specs.Rows.{RowsView, same_row}
use Rattle.gl_rows.specs.declared.row.Row.{Row}
use Rattle.gl_rows.specs.declared.rows.Rows.TheInside.{Inside}

-- sets of rows, as stored
abbrev pub Sets : Type 0 → Type 0
Sets H = List (IndexSet Row H)

module _ {H : Type 0} (sets : Sets H) where
  -- the rows of each set
  abbrev pub rows_of : List (List Row)
  rows_of = map (λ s. s.keys) sets

  -- the row is in the slot's set
  abbrev pub is_in : ℕ → Row → Bool
  is_in slot row = list_any (same_row row) (get_or rows_of slot [])

  -- the slot's set has room for one more row
  abbrev pub HasRoom : ℕ → Type 0
  HasRoom slot = (set : IndexSet Row H) → slice_get sets slot ≡ Some set → 0 < spare set

-- files, names, sets and slots with rows left, as a contract sees them
abbrev pub viewed : {H : Type 0} → List NodeId → List (Row × NodeId) → Sets H → Slots → RowsView
viewed files names sets left = record { files = files; names = names; asked = rows_of sets; left = left }

-- what a contract sees
abbrev pub view_of : Inside → RowsView
view_of m = viewed m.files.keys m.names.entries m.asked.items m.left

-- there is a set for each slot
abbrev pub IsSound : Inside → Type 0
IsSound m = length m.asked.items ≡ most_slots
