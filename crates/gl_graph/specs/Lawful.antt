-- Which graphs are lawful: kinds and limits, records under their file and intervals, no cycles.
use Rattle.std.specs.Prelude.{◌≡◌, ℕ, ◌+◌, ◌^◌, ◌≤◌, Bool, true, not, ◌&&◌, nat_lt, List, [], ◌∷◌, length, Some, is_some, ⊤}
use Rattle.std.specs.List.{list_all, list_any}
use Rattle.gl_modes.specs.declared.node.NodeId.{NodeId}
use Rattle.gl_modes.specs.Nodes.{same_node}
use Rattle.gl_graph.specs.Shapes.{Shape, Inner, File, Index, Interval, Rec, is_inner_shape, is_file_shape, is_index_shape, intervals_in}
use Rattle.gl_graph.specs.Graph.{Graph, Node, node_at, is_live, shape_of, is_child, node_count, indexes_of, record_parents}
use Rattle.gl_graph.specs.Routes.{IsAcyclic}

-- these numbers strictly increase
abbrev pub IsRising : List ℕ → Type 0
IsRising [] = ⊤
IsRising (b ∷ bs) = list_all (λ c. nat_lt b c) bs ≡ true × IsRising bs

-- these are inner nodes
abbrev pub are_inner : Graph → List NodeId → Bool
are_inner g ps = list_all (λ p. is_inner_shape (shape_of g p)) ps

-- these nodes are all different
abbrev pub are_distinct : List NodeId → Bool
are_distinct [] = true
are_distinct (n ∷ ns) = not (list_any (same_node n) ns) && are_distinct ns

-- different inner nodes, at least so many and at most 8
pub record AreInnerParents (g : Graph) (least : ℕ) (ps : List NodeId) : Type 0 where
  pub enough : least ≤ length ps
  pub few : length ps ≤ 8
  pub inner : are_inner g ps ≡ true
  pub distinct : are_distinct ps ≡ true

-- an index: its file, its bounds, and its intervals: one more than bounds, all different, each with the index as its one parent
pub record IsIndexNode (g : Graph) (n f : NodeId) (bs : List ℕ) (is : List NodeId) : Type 0 where
  pub file : is_file_shape (shape_of g f) ≡ true
  pub few : length bs ≤ g.most_bounds
  pub rising : IsRising (0 ∷ bs)
  pub count : length is ≡ length bs + 1
  pub distinct : are_distinct is ≡ true
  pub intervals : (i : NodeId) → list_any (same_node i) is ≡ true → node_at g i ≡ Some (record { key = i.key; shape = Interval; parents = n ∷ [] })

-- a record: a key for each index of its file; its parents are the file and the intervals of the keys
pub record IsRecordNode (g : Graph) (keys : List ℕ) (ps : List NodeId) (file : NodeId) : Type 0 where
  pub file_is : is_file_shape (shape_of g file) ≡ true
  pub a_key_each : length keys ≡ length (indexes_of g file)
  pub parents : ps ≡ record_parents g file keys

-- what its kind requires of the node with this id
abbrev pub HasShape : Graph → NodeId → Shape → List NodeId → Type 0
HasShape g n Inner ps = AreInnerParents g 0 ps
HasShape g n (File adopted) ps = AreInnerParents g 1 ps
HasShape g n (Index f bs is) ps = AreInnerParents g 1 ps × IsIndexNode g n f bs is
HasShape g n Interval ps = (index : NodeId) × (ps ≡ index ∷ []) × (is_index_shape (shape_of g index) ≡ true)
    × (list_any (same_node n) (intervals_in (shape_of g index)) ≡ true)
HasShape g n (Rec keys) ps = (file : NodeId) × IsRecordNode g keys ps file

-- the node is as its shape requires
abbrev pub IsWellFormed : Graph → NodeId → Node → Type 0
IsWellFormed g n node = HasShape g n node.shape node.parents

-- the law of a graph
pub record IsLawfulGraph (g : Graph) : Type 0 where
  pub well_formed : (n : NodeId) (node : Node) → node_at g n ≡ Some node → IsWellFormed g n node
  pub parents_live : (n p : NodeId) → is_child g p n ≡ true → is_live g p ≡ true
  pub acyclic : IsAcyclic g
  pub keys_differ : (m n : NodeId) → is_live g m ≡ true → is_live g n ≡ true → m.key ≡ n.key → m ≡ n
  pub born : (b : ℕ) → is_some (g.at b) ≡ true → (1 ≤ b) × (b ≤ g.births)
  pub seven_indexes : (f : NodeId) → length (indexes_of g f) ≤ 7
  pub room : node_count g ≤ g.most
  pub limit : g.most ≤ 2 ^ 31
