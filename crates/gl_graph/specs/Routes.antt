-- Routes up the graph.
use Rattle.std.specs.Prelude.{◌≡◌, ℕ, zero, suc, Bool, true, ◌||◌, List, [], ◌∷◌}
use Rattle.std.specs.List.{list_any}
use Rattle.gl_modes.specs.declared.node.NodeId.{NodeId}
use Rattle.gl_modes.specs.Nodes.{same_node}
use Rattle.gl_graph.specs.Shapes.{is_record_shape}
use Rattle.gl_graph.specs.Graph.{Graph, is_live, parents_of, shape_of}

-- the steps of a route from n to m: each is a parent of the node before
abbrev pub IsRoute : Graph → NodeId → List NodeId → NodeId → Type 0
IsRoute g n [] m = n ≡ m
IsRoute g n (p ∷ route) m = (list_any (same_node p) (parents_of g n) ≡ true) × IsRoute g p route m

-- no node has a route of one or more steps to itself
abbrev pub IsAcyclic : Graph → Type 0
IsAcyclic g = (n p : NodeId) (route : List NodeId) → IsRoute g n (p ∷ route) n → ⊥

-- a living node without parents
abbrev pub IsRoot : Graph → NodeId → Type 0
IsRoot g n = (is_live g n ≡ true) × (parents_of g n ≡ [])

-- a path to the root of n: its nodes after n
abbrev pub IsRootPath : Graph → NodeId → List NodeId → Type 0
IsRootPath g n route = (r : NodeId) × IsRoute g n route r × IsRoot g r

-- r is a record with a route to n
pub record IsBelow (g : Graph) (n r : NodeId) : Type 0 where
  pub is_record : is_record_shape (shape_of g r) ≡ true
  pub route : (route : List NodeId) × IsRoute g r route n

-- p is n or has a route to n, over at most k steps
abbrev pub is_at_or_below : ℕ → Graph → NodeId → NodeId → Bool
is_at_or_below zero g n p = same_node n p
is_at_or_below (suc k) g n p = same_node n p || list_any (is_at_or_below k g n) (parents_of g p)
