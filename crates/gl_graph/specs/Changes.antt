-- How each call changes the graph.
use Rattle.std.specs.Prelude.{◌≡◌, ℕ, ◌+◌, Bool, true, not, ◌&&◌, ◌||◌, ◌==◌, List, [], ◌∷◌, length, Option, Some, None, if◌then◌else◌}
use Rattle.std.specs.List.{list_any}
use Rattle.gl_modes.specs.declared.node.NodeId.{NodeId}
use Rattle.gl_modes.specs.Nodes.{same_node}
use Rattle.gl_graph.specs.Shapes.{Shape, File, Index, Interval, Rec, keys_in}
use Rattle.gl_graph.specs.Graph.{Graph, Node, parents_in, shape_of, indexes_of, record_parents, first_parent, IsFreeKey}

-- the graph with another node of this birth
abbrev pub with_node : Graph → ℕ → Node → Graph
with_node g birth node = record { at = λ b. if b == birth then Some node else g.at b; births = g.births; most = g.most; most_bounds = g.most_bounds }

-- the graph with one more node, which has the next birth
abbrev pub born_node : Graph → Node → Graph
born_node g node = record { at = λ b. if b == g.births + 1 then Some node else g.at b; births = g.births + 1; most = g.most; most_bounds = g.most_bounds }

-- the graph after these nodes are born, one after the other
abbrev pub born_nodes : Graph → List Node → Graph
born_nodes g [] = g
born_nodes g (n ∷ ns) = born_nodes (born_node g n) ns

-- intervals of this index, with these keys
abbrev pub interval_nodes : NodeId → List ℕ → List Node
interval_nodes index [] = []
interval_nodes index (key ∷ keys) = record { key = key; shape = Interval; parents = index ∷ [] } ∷ interval_nodes index keys

-- the ids of nodes with these keys and births from this one on
abbrev pub ids_of : ℕ → List ℕ → List NodeId
ids_of birth [] = []
ids_of birth (key ∷ keys) = record { key = key; birth = birth } ∷ ids_of (birth + 1) keys

-- an index as it is born: its intervals have these keys, and the births right after its own
abbrev pub new_index : NodeId → List NodeId → NodeId → List ℕ → List ℕ → Node
new_index id parents file bounds interval_keys =
    record { key = id.key; shape = Index file bounds (ids_of (id.birth + 1) interval_keys); parents = parents }

-- the graph after the index is born, and then its intervals in order
abbrev pub born_index : Graph → ℕ → List NodeId → NodeId → List ℕ → List ℕ → Graph
born_index g key parents file bounds interval_keys =
    let id : NodeId = record { key = key; birth = g.births + 1 } in
    born_nodes g (new_index id parents file bounds interval_keys ∷ interval_nodes id interval_keys)

-- the keys of these nodes
abbrev pub keys_of : List Node → List ℕ
keys_of [] = []
keys_of (n ∷ ns) = n.key ∷ keys_of ns

-- these keys are all different
abbrev pub are_apart : List ℕ → Bool
are_apart [] = true
are_apart (k ∷ ks) = not (list_any (λ x. x == k) ks) && are_apart ks

-- n is born with the next birth under a key that no living node has, and nothing else changes
pub record IsBorn (g g' : Graph) (n : NodeId) (shape : Shape) (parents : List NodeId) : Type 0 where
  pub key_free : IsFreeKey g n.key
  pub birth : n.birth ≡ g.births + 1
  pub after : g' ≡ born_node g (record { key = n.key; shape = shape; parents = parents })

-- the index n is born, and after it one more interval than it has bounds, under different keys that no living node has
pub record IsIndexBorn (g g' : Graph) (n : NodeId) (parents : List NodeId) (file : NodeId) (bounds : List ℕ) : Type 0 where
  pub interval_keys : List ℕ
  pub intervals : length interval_keys ≡ length bounds + 1
  pub keys_apart : are_apart (n.key ∷ interval_keys) ≡ true
  pub keys_free : (key : ℕ) → list_any (λ k. k == key) (n.key ∷ interval_keys) ≡ true → IsFreeKey g key
  pub birth : n.birth ≡ g.births + 1
  pub after : g' ≡ born_index g n.key parents file bounds interval_keys

-- the graph without this node
abbrev pub without_node : Graph → NodeId → Graph
without_node g n = record { at = λ b. if b == n.birth then None else g.at b; births = g.births; most = g.most; most_bounds = g.most_bounds }

-- the graph without a node and its children; an index's are its intervals
abbrev pub without_branch : Graph → NodeId → Graph
without_branch g n = record {
  at = λ b. if (b == n.birth) || list_any (same_node n) (parents_in (g.at b)) then None else g.at b;
  births = g.births;
  most = g.most;
  most_bounds =
      g.most_bounds;
}

-- the node with these parents
abbrev pub reparented : List NodeId → Option Node → Option Node
reparented ps None = None
reparented ps (Some n) = Some (record n { parents = ps })

-- the graph in which the node has these parents
abbrev pub with_parents : Graph → NodeId → List NodeId → Graph
with_parents g n ps = record {
  at = λ b. if b == n.birth then reparented ps (g.at b) else g.at b;
  births = g.births;
  most = g.most;
  most_bounds =
      g.most_bounds;
}

-- the shape, for a file marked as one of which rows were adopted
abbrev pub marked_shape : Shape → Shape
marked_shape (File adopted) = File true
marked_shape s = s

-- the node with that shape
abbrev pub marked_node : Option Node → Option Node
marked_node None = None
marked_node (Some n) = Some (record n { shape = marked_shape n.shape })

-- the graph in which the file is so marked
abbrev pub marked : Graph → NodeId → Graph
marked g f = record { at = λ b. if b == f.birth then marked_node (g.at b) else g.at b; births = g.births; most = g.most; most_bounds = g.most_bounds }

-- the keys with that of one index changed
abbrev pub keys_with : List NodeId → List ℕ → NodeId → ℕ → List ℕ
keys_with [] keys index key = keys
keys_with (i ∷ is) [] index key = []
keys_with (i ∷ is) (k ∷ ks) index key = (if same_node i index then key else k) ∷ keys_with is ks index key

-- a record's keys with the one for an index changed
abbrev pub rekeyed_keys : Graph → NodeId → NodeId → ℕ → List ℕ
rekeyed_keys g rec index key = keys_with (indexes_of g (first_parent g rec)) (keys_in (shape_of g rec)) index key

-- the parents of a record with these keys
abbrev pub rekeyed_parents : Graph → NodeId → NodeId → ℕ → List NodeId
rekeyed_parents g rec index key = record_parents g (first_parent g rec) (rekeyed_keys g rec index key)

-- the node as a record with these keys and parents
abbrev pub rekeyed_node : List ℕ → List NodeId → Option Node → Option Node
rekeyed_node keys ps None = None
rekeyed_node keys ps (Some n) = Some (record { key = n.key; shape = Rec keys; parents = ps })

-- the graph in which the record has another key for one index, and the interval that contains it
abbrev pub rekeyed : Graph → NodeId → NodeId → ℕ → Graph
rekeyed g rec index key =
    record {
      at = λ b. if b == rec.birth then rekeyed_node (rekeyed_keys g rec index key) (rekeyed_parents g rec index key) (g.at b) else g.at b;
      births = g.births;
      most = g.most;
      most_bounds = g.most_bounds;
    }

-- n is born as a record of this file with these keys, and the file is marked as one of which rows were adopted
pub record IsAdopted (g g' : Graph) (n f : NodeId) (keys : List ℕ) : Type 0 where
  pub key_free : IsFreeKey g n.key
  pub birth : n.birth ≡ g.births + 1
  pub after : g' ≡ marked (born_node g (record { key = n.key; shape = Rec keys; parents = record_parents g f keys })) f
