-- What a map of nodes is after a `&mut` into it has ended.
use Rattle.std.specs.Prelude.{◌≡◌, ℕ, Option}
use Rattle.std.specs.Borrow.{Fml, RattleType, MutBor, Lends, LendsSo}
use Rattle.indexmap.specs.IndexMap.{WritesThrough, with_value_at}
use Rattle.gl_modes.specs.declared.node.NodeId.{NodeId}
use Rattle.gl_modes.specs.Nodes.{same_node}
use Rattle.gl_lock_lists.specs.Rows.{Listed}
use Rattle.gl_lock_lists.specs.contracts.node_map.NodeMap.{the_row}

module _ (V : RattleType) (m : MutBor (Listed V.Denot)) where
  -- the place has the last value written through r
  abbrev pub lends_at : ℕ → MutBor V.Denot → Fml
  lends_at place r = Lends (the_row V) V m r (with_value_at m.now place)

  -- the node has the last value written through r, and at `None` the map stays as it is
  abbrev pub lends_get : NodeId → Option (MutBor V.Denot) → Fml
  lends_get n r = LendsSo (the_row V) V m r (λ now w. WritesThrough same_node (same_node n) m.now w now) (λ now. now ≡ m.now)
