-- What a contract sees of a `Graph`: the nodes by key, with what is stored beside them.
use Rattle.std.specs.Prelude.{ℕ, ◌+◌, ◌==◌, List, [], ◌∷◌, Option, Some, None, if◌then◌else◌, count_by}
use Rattle.std.specs.List.{count_by}
use Rattle.gl_modes.specs.declared.node.NodeId.{NodeId}
use Rattle.gl_graph.specs.Shapes.{Shape, Inner, File}
use Rattle.gl_graph.specs.Graph.{Graph, Node, nodes, shape_of, is_child, indexes_of, is_record_of}

-- a node, with what is stored for speed: a file's indexes and the number of its records
pub record Vertex : Type 0 where
  pub birth : ℕ
  pub shape : Shape
  pub parents : List NodeId
  pub indexes : List NodeId
  pub records : ℕ

-- the node or nothing at each key from 0 on, the number of births so far, the limits of living nodes and of an index's bounds, and the key that the next node
-- gets
pub record View : Type 0 where
  pub slots : List (Option Vertex)
  pub births : ℕ
  pub most : ℕ
  pub most_bounds : ℕ
  pub next_key : ℕ

-- the node without what is stored beside it
abbrev pub node_of : ℕ → Vertex → Node
node_of key x = record { key = key; shape = x.shape; parents = x.parents }

-- the node with this birth among slots, of which the first has this key
abbrev pub born_at : ℕ → List (Option Vertex) → ℕ → Option Node
born_at key [] birth = None
born_at key (None ∷ slots) birth = born_at (key + 1) slots birth
born_at key (Some x ∷ slots) birth = if x.birth == birth then Some (node_of key x) else born_at (key + 1) slots birth

-- the graph, without what is stored beside it
abbrev pub graph_of : View → Graph
graph_of v = record { at = born_at 0 v.slots; births = v.births; most = v.most; most_bounds = v.most_bounds }

-- how many records a file has
abbrev pub record_count : Graph → NodeId → ℕ
record_count g f = count_by (is_record_of g f) (nodes g)

-- how many children a node has
abbrev pub children_of : Graph → NodeId → ℕ
children_of g n = count_by (is_child g n) (nodes g)

-- what is stored beside a node: of an inner node the number of its children, of a file its indexes and the number of its records
pub data Beside : Type 0 where
  Counts : (children : ℕ) → Beside
  Lists : (indexes : List NodeId) → (records : ℕ) → Beside
  Nothing : Beside

-- what the graph says is to be stored beside a node of this shape
abbrev pub due_as : Graph → NodeId → Option Shape → Beside
due_as g n (Some Inner) = Counts (children_of g n)
due_as g n (Some (File adopted)) = Lists (indexes_of g n) (record_count g n)
due_as g n s = Nothing

-- and beside this node
abbrev pub due : Graph → NodeId → Beside
due g n = due_as g n (shape_of g n)
