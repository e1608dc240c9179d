-- The lock graph: a finite map from births to nodes. An id names a node if key and birth agree.
use Rattle.std.specs.Prelude.{◌≡◌, ◌≢◌, ℕ, Bool, true, ◌&&◌, ◌==◌, nat_le, List, [], ◌∷◌, length, Option, Some, None, if◌then◌else◌, is_some, position}
use Rattle.std.specs.Prelude.{slice_get, slice_index_or}
use Rattle.std.specs.List.{filter, filter_map, list_any, range_with_len, count_by}
use Rattle.gl_modes.specs.declared.node.NodeId.{NodeId}
use Rattle.gl_modes.specs.Nodes.{same_node}
use Rattle.gl_graph.specs.Shapes.{Shape, is_record_shape, is_index_of_shape, is_interval_shape, bounds_in, intervals_in}

-- a node's key, its shape, and its parents
pub record Node : Type 0 where
  pub key : ℕ
  pub shape : Shape
  pub parents : List NodeId

-- the living node of each birth, the number of births so far, and the limits of living nodes and of an index's bounds
pub record Graph : Type 0 where
  pub at : ℕ → Option Node
  pub births : ℕ
  pub most : ℕ
  pub most_bounds : ℕ

-- the node, if it has this key
abbrev pub with_key : ℕ → Option Node → Option Node
with_key key None = None
with_key key (Some n) = if n.key == key then Some n else None

-- the node that an id names
abbrev pub node_at : Graph → NodeId → Option Node
node_at g n = with_key n.key (g.at n.birth)

-- the id names a node
abbrev pub is_live : Graph → NodeId → Bool
is_live g n = is_some (node_at g n)

-- the parents of the node, if there is one
abbrev pub parents_in : Option Node → List NodeId
parents_in None = []
parents_in (Some n) = n.parents

-- the parents of the node that an id names
abbrev pub parents_of : Graph → NodeId → List NodeId
parents_of g n = parents_in (node_at g n)

-- the shape of the node, if there is one
abbrev pub shape_in : Option Node → Option Shape
shape_in None = None
shape_in (Some n) = Some n.shape

-- the shape of the node that an id names
abbrev pub shape_of : Graph → NodeId → Option Shape
shape_of g n = shape_in (node_at g n)

-- the id of the node with this birth
abbrev pub id_of : ℕ → Option Node → Option NodeId
id_of birth None = None
id_of birth (Some n) = Some (record { key = n.key; birth = birth })

-- the ids of the nodes, in order of birth
abbrev pub nodes : Graph → List NodeId
nodes g = filter_map (λ b. id_of b (g.at b)) (range_with_len 1 g.births)

-- how many nodes live
abbrev pub node_count : Graph → ℕ
node_count g = length (nodes g)

-- n is a parent of c
abbrev pub is_child : Graph → NodeId → NodeId → Bool
is_child g n c = list_any (same_node n) (parents_of g c)

-- a key that no living node has
abbrev pub IsFreeKey : Graph → ℕ → Type 0
IsFreeKey g key = (n : NodeId) → is_live g n ≡ true → n.key ≢ key

-- the indexes of a file, in the order in which they were made
abbrev pub indexes_of : Graph → NodeId → List NodeId
indexes_of g f = filter (λ n. is_index_of_shape f (shape_of g n)) (nodes g)

-- the place of the interval that contains a key: the number of bounds at or below it
abbrev pub interval_place : List ℕ → ℕ → ℕ
interval_place bounds key = count_by (λ b. nat_le b key) bounds

-- the id that names no node
abbrev pub no_node : NodeId
no_node = record { key = 0; birth = 0 }

-- the interval of an index at this place; the id that names no node if there is none
abbrev pub interval : Graph → NodeId → ℕ → NodeId
interval g index place = slice_index_or (intervals_in (shape_of g index)) place no_node

-- the interval of an index at this place, if the index lives and has one
abbrev pub interval_at : Graph → NodeId → ℕ → Option NodeId
interval_at g index place = slice_get (intervals_in (shape_of g index)) place

-- the interval of an index that contains a key
abbrev pub interval_of : Graph → NodeId → ℕ → NodeId
interval_of g index key = interval g index (interval_place (bounds_in (shape_of g index)) key)

-- for each index the interval that contains its key
abbrev pub intervals_of : Graph → List NodeId → List ℕ → List NodeId
intervals_of g [] keys = []
intervals_of g (i ∷ is) [] = []
intervals_of g (i ∷ is) (k ∷ ks) = interval_of g i k ∷ intervals_of g is ks

-- the parents of a record of this file with these keys
abbrev pub record_parents : Graph → NodeId → List ℕ → List NodeId
record_parents g file keys = file ∷ intervals_of g (indexes_of g file) keys

-- a record of this file
abbrev pub is_record_of : Graph → NodeId → NodeId → Bool
is_record_of g f r = is_record_shape (shape_of g r) && is_child g f r

-- the first of these; the id that names no node if there is none
abbrev pub first_in : List NodeId → NodeId
first_in [] = no_node
first_in (p ∷ ps) = p

-- the first parent of a node; for a record, its file
abbrev pub first_parent : Graph → NodeId → NodeId
first_parent g n = first_in (parents_of g n)

-- the place of an interval among those of its one parent, its index; None for another node
abbrev pub place_of : Graph → NodeId → Option ℕ
place_of g n = if is_interval_shape (shape_of g n) then position (λ i. same_node i n) (intervals_in (shape_of g (first_parent g n))) else None
