-- What holds of every transaction's list.
use Rattle.std.specs.Prelude.{◌≡◌, ℕ, true, List, None, is_some}
use Rattle.std.specs.Coded.{×_prop, Π_prop, →_prop, Coded-set, coded_option, coded_ℕ}
use Rattle.std.specs.List.{IsDistinct, IsDistinct-prop}
use Rattle.std.specs.Map.{keys_of, lookup}
use Rattle.gl_modes.specs.declared.node.NodeId.{NodeId}
use Rattle.gl_modes.specs.Nodes.{same_node}
use Rattle.gl_lock_lists.specs.declared.list.Entry.{Entry}

-- no node is listed twice, and none that is listed has a separate count
unfoldable pub IsApart : List (NodeId × Entry) → List (NodeId × ℕ) → Type 0
IsApart es loose = IsDistinct same_node (keys_of es) × ((n : NodeId) → is_some (lookup (same_node n) es) ≡ true → lookup (same_node n) loose ≡ None)

-- it is a proposition, as a ghost field must be
pub IsApart-prop : (es : List (NodeId × Entry)) (loose : List (NodeId × ℕ)) → IsProp (IsApart es loose)
unfolding IsApart
IsApart-prop es loose = ×_prop (IsDistinct-prop same_node _) (Π_prop (λ n. →_prop (Coded-set (coded_option coded_ℕ) _ _)))
