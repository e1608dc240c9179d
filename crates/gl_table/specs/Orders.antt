-- The order of a transaction's list from call to call: no node that stays in it moves to a later place.
use Rattle.std.specs.Prelude.{◌≡◌, ℕ, List, take, true}
use Rattle.std.specs.List.{list_any}
use Rattle.gl_modes.specs.declared.node.NodeId.{NodeId}
use Rattle.gl_modes.specs.Nodes.{same_node}

-- of the first k nodes, each that is still listed is still among the first k, whatever k is
pub record KeepsPlaces (order order' : List NodeId) : Type 0 where
  pub first : (k : ℕ) (n : NodeId) → list_any (same_node n) (take k order) ≡ true → list_any (same_node n) order' ≡ true
      → list_any (same_node n) (take k order') ≡ true

-- nodes are removed, none is added, and those that stay keep their places or move to earlier ones
pub record OnlyLoses (order order' : List NodeId) : Type 0 where
  pub had : (n : NodeId) → list_any (same_node n) order' ≡ true → list_any (same_node n) order ≡ true
  pub places : KeepsPlaces order order'
