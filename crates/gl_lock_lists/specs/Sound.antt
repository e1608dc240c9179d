-- The two forms of a map of nodes, and what holds of them. For the crate.
use Rattle.std.specs.Prelude.{◌≡◌, ℕ, ◌-◌, ◌<◌, ◌≤◌, ◌++◌, ◌==◌, [], if◌then◌else◌, length, max, nat_lt, vec_capacity}
use Rattle.std.specs.List.{IsDistinct}
use Rattle.std.specs.Map.{keys_of}
use Rattle.indexmap.specs.IndexMap.{spare}
use Rattle.indexmap.specs.Layout.{hash_map}
use Rattle.gl_modes.specs.Nodes.{same_node}
use Rattle.gl_lock_lists.specs.Rows.{Listed, short}
use Rattle.gl_lock_lists.specs.declared.node_map.NodeMap.TheInside.{Inside}

-- how many entries fit without memory while they are scanned, and then in a hash map for which r were reserved
abbrev pub rows_that_fit : ℕ → ℕ → ℕ
rows_that_fit capacity r = if nat_lt capacity short then capacity else max short r

module _ {V : Type 0} (m : Inside V) where
  -- how many more can be inserted without memory
  abbrev pub room : ℕ
  room =
      if length m.map.entries == 0
      then rows_that_fit (vec_capacity m.rows) (spare m.map) - length m.rows.items
      else spare m.map

  -- the entries, in either form
  abbrev pub listed : Listed V
  listed = hash_map (m.rows.items ++ m.map.entries) tt room

  -- few entries are scanned while the hash map is empty; while it is not, there are no others, and the room of those scanned stays
  pub record IsSound : Type 0 where
    pub distinct : IsDistinct same_node (keys_of m.rows.items)
    pub few : length m.rows.items ≤ short
    pub apart : 0 < length m.map.entries → m.rows.items ≡ []
    pub roomy : 0 < length m.map.entries → short ≤ vec_capacity m.rows
