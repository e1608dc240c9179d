-- What a contract sees of a slab of nodes, and what always holds of it.
use Rattle.std.specs.Prelude.{◌≡◌, ℕ, true, not, ◌==◌, List, [], ◌∷◌, ◌++◌, map, Option, Some, None, if◌then◌else◌, slice_set}
use Rattle.std.specs.Prelude.{◌+◌, ◌≤◌, ◌&&◌, Bool, Vec, false, nat_le, slice_get}
use Rattle.std.specs.List.{filter, list_any}
use Rattle.gl_modes.specs.declared.node.NodeId.{NodeId}
use Rattle.gl_modes.specs.Nodes.{same_node}
use Rattle.std.specs.declared.alloc.Global.{Global}
use Rattle.smallvec.specs.SmallVec.{SmallVec}
use Rattle.slab.specs.Slab.{Slab, get, slab_len}
use Rattle.gl_graph.specs.declared.node.Body.{Body}
use Rattle.gl_graph.specs.declared.node.Body.TheVariants as body
use Rattle.gl_graph.specs.declared.node.Node.{Node}
use Rattle.gl_graph.specs.Shapes.{Shape, Inner, File, Index, Interval, Rec, keys_in}
use Rattle.gl_graph.specs.Graph.{Graph, node_count}
use Rattle.gl_graph.specs.Lawful.{IsLawfulGraph}
use Rattle.gl_graph.specs.View.{Vertex, View, graph_of, Beside, Counts, Lists, Nothing, due}

-- the shape of a body
abbrev pub shape_in_body : Body → Shape
shape_in_body (body.Inner children above) = Inner
shape_in_body (body.File kept above) = File kept.value.adopted
shape_in_body (body.Index kept above) = Index kept.value.file kept.value.bounds.items kept.value.intervals.items
shape_in_body (body.Interval index) = Interval
shape_in_body (body.NoKey file) = Rec []
shape_in_body (body.OneKey key above) = Rec key
shape_in_body (body.TwoKeys keys above) = Rec keys
shape_in_body (body.ThreeKeys keys above) = Rec keys
shape_in_body (body.ManyKeys keys above) = Rec keys.value.items

-- a node's parents, as stored
abbrev pub parents_in_body : Body → List NodeId
parents_in_body (body.Inner children above) = above.items
parents_in_body (body.File kept above) = above.items
parents_in_body (body.Index kept above) = above.items
parents_in_body (body.Interval index) = index
parents_in_body (body.NoKey file) = file
parents_in_body (body.OneKey key above) = above
parents_in_body (body.TwoKeys keys above) = above.value
parents_in_body (body.ThreeKeys keys above) = above.value
parents_in_body (body.ManyKeys keys above) = above.items

-- a file's indexes, as stored
abbrev pub indexes_in_body : Body → List NodeId
indexes_in_body (body.File kept above) = kept.value.indexes.items
indexes_in_body b = []

-- the number of a file's records, as stored
abbrev pub records_in_body : Body → ℕ
records_in_body (body.File kept above) = kept.value.records
records_in_body b = 0

-- the number of an inner node's children, as stored
abbrev pub children_in_body : Body → ℕ
children_in_body (body.Inner children above) = children
children_in_body b = 0

-- what a contract sees of a stored node
abbrev pub vertex_of : Node → Vertex
vertex_of x = record {
  birth = x.birth;
  shape = shape_in_body x.body;
  parents = parents_in_body x.body;
  indexes = indexes_in_body x.body;
  records = records_in_body x.body;
}

-- the same for a slot
abbrev pub see : Option Node → Option Vertex
see None = None
see (Some x) = Some (vertex_of x)

-- how many nodes may live at once, and how many bounds an index may have
pub record Limits : Type 0 where
  pub most : ℕ
  pub most_bounds : ℕ

-- what a contract sees of all slots, under these limits
abbrev pub seen : Limits → Slab Node → ℕ → View
seen limits nodes births = record {
  slots = map see nodes.slots;
  births = births;
  most = limits.most;
  most_bounds = limits.most_bounds;
  next_key =
      nodes.vacant_key;
}

-- the node, if it has this birth
abbrev pub named_in : ℕ → Option Node → Option Node
named_in birth None = None
named_in birth (Some x) = if x.birth == birth then Some x else None

-- the stored node that an id names
abbrev pub named : Slab Node → NodeId → Option Node
named nodes n = named_in n.birth (get nodes n.key)

-- no two nodes have the same birth
abbrev pub AreBornApart : Slab Node → Type 0
AreBornApart nodes = (j k : ℕ) (x y : Node) → get nodes j ≡ Some x → get nodes k ≡ Some y → x.birth ≡ y.birth → j ≡ k

-- births are at most this
abbrev pub AreBornWithin : Slab Node → ℕ → Type 0
AreBornWithin nodes births = (k : ℕ) (x : Node) → get nodes k ≡ Some x → x.birth ≤ births

-- what is stored beside a node
abbrev pub beside_in_body : Body → Beside
beside_in_body (body.Inner children above) = Counts children
beside_in_body (body.File kept above) = Lists kept.value.indexes.items kept.value.records
beside_in_body b = Nothing

-- the nodes show this graph, and beside each of them this is stored
pub record Holds (limits : Limits) (nodes : Slab Node) (births : ℕ) (g : Graph) (beside : NodeId → Beside) : Type 0 where
  pub graph : graph_of (seen limits nodes births) ≡ g
  pub apart : AreBornApart nodes
  pub counted : slab_len nodes ≡ node_count g
  pub kept : (key : ℕ) (x : Node) → get nodes key ≡ Some x → beside_in_body x.body ≡ beside (record { key = key; birth = x.birth })

-- the graph is lawful, and what is stored beside its nodes is what it says
pub record AreSound (limits : Limits) (nodes : Slab Node) (births : ℕ) : Type 0 where
  pub lawful : IsLawfulGraph (graph_of (seen limits nodes births))
  pub holds : Holds limits nodes births (graph_of (seen limits nodes births)) (due (graph_of (seen limits nodes births)))

-- an inner node without children, or a file with nothing stored beside it
abbrev pub IsPlainBody : Body → Type 0
IsPlainBody (body.Inner children above) = children ≡ 0
IsPlainBody (body.File kept above) = (kept.value.indexes.items ≡ []) × (kept.value.records ≡ 0)
IsPlainBody b = ⊥

-- an inner node with this number of children
abbrev pub body_with_children : Body → ℕ → Body
body_with_children (body.Inner children above) fresh = body.Inner fresh above
body_with_children b fresh = b

-- a file with this number of records
abbrev pub body_with_records : Body → ℕ → Body
body_with_records (body.File kept above) fresh = body.File (record kept { value = record kept.value { records = fresh } }) above
body_with_records b fresh = b

-- an inner node, a file or an index with these parents
abbrev pub body_with_parents : Body → Vec NodeId Global → Body
body_with_parents (body.Inner children above) fresh = body.Inner children fresh
body_with_parents (body.File kept above) fresh = body.File kept fresh
body_with_parents (body.Index kept above) fresh = body.Index kept fresh
body_with_parents b fresh = b

-- a record with another key at this place
abbrev pub body_with_key : Body → ℕ → ℕ → Body
body_with_key (body.OneKey key above) place fresh = body.OneKey (slice_set key place fresh) above
body_with_key (body.TwoKeys keys above) place fresh = body.TwoKeys (slice_set keys place fresh) above
body_with_key (body.ThreeKeys keys above) place fresh = body.ThreeKeys (slice_set keys place fresh) above
body_with_key (body.ManyKeys keys above) place fresh =
    body.ManyKeys (record keys { value = record keys.value { items = slice_set keys.value.items place fresh } }) above
body_with_key b place fresh = b

-- a record with another parent at this place
abbrev pub body_with_parent : Body → ℕ → NodeId → Body
body_with_parent (body.NoKey file) place fresh = body.NoKey (slice_set file place fresh)
body_with_parent (body.OneKey key above) place fresh = body.OneKey key (slice_set above place fresh)
body_with_parent (body.TwoKeys keys above) place fresh = body.TwoKeys keys (record above { value = slice_set above.value place fresh })
body_with_parent (body.ThreeKeys keys above) place fresh = body.ThreeKeys keys (record above { value = slice_set above.value place fresh })
body_with_parent (body.ManyKeys keys above) place fresh = body.ManyKeys keys (record above { items = slice_set above.items place fresh })
body_with_parent b place fresh = b

-- a record with another key at this place, and its interval at the next place, since the first parent is the file
abbrev pub body_rekeyed : Body → ℕ → ℕ → NodeId → Body
body_rekeyed b place key interval = body_with_parent (body_with_key b place key) (place + 1) interval

-- an index with these intervals
abbrev pub body_with_intervals : Body → Vec NodeId Global → Body
body_with_intervals (body.Index kept above) fresh = body.Index (record kept { value = record kept.value { intervals = fresh } }) above
body_with_intervals b fresh = b

-- an index with these bounds and intervals
abbrev pub body_with_cuts : Body → Vec ℕ Global → Vec NodeId Global → Body
body_with_cuts (body.Index kept above) bounds intervals =
    body.Index (record kept { value = record kept.value { bounds = bounds; intervals = intervals } }) above
body_with_cuts b bounds intervals = b

-- there is a key at or above the bound, and a parent that is this interval
abbrev pub is_past : NodeId → ℕ → Option ℕ → Option NodeId → Bool
is_past from bound (Some key) (Some parent) = nat_le bound key && same_node parent from
is_past from bound key parent = false

-- a record with a key at this place at or above the bound, and with this interval as the parent for it
abbrev pub is_passed : ℕ → NodeId → ℕ → Body → Bool
is_passed place from bound b = is_past from bound (slice_get (keys_in (Some (shape_in_body b))) place) (slice_get (parents_in_body b) (place + 1))

-- the node, and if it is such a record, with another interval for that key
abbrev pub node_passed : ℕ → NodeId → ℕ → NodeId → Node → Node
node_passed place from bound to x = record x { body = if is_passed place from bound x.body then body_with_parent x.body (place + 1) to else x.body }

-- a file with these indexes
abbrev pub body_with_indexes : Body → SmallVec NodeId → Body
body_with_indexes (body.File kept above) fresh = body.File (record kept { value = record kept.value { indexes = fresh } }) above
body_with_indexes b fresh = b

-- a file that does not list this index
abbrev pub body_without_index : Body → NodeId → Body
body_without_index (body.File kept above) index = body.File (record kept {
  value = record kept.value { indexes = record kept.value.indexes { items = filter (λ listed. not (same_node listed index)) kept.value.indexes.items } };
}) above
body_without_index b index = b

-- a file of which rows were adopted
abbrev pub body_adopted : Body → Body
body_adopted (body.File kept above) = body.File (record kept { value = record kept.value { adopted = true } }) above
body_adopted b = b

-- ids, and then those of more that are not among them
abbrev pub with_all : List NodeId → List NodeId → List NodeId
with_all ids [] = ids
with_all ids (m ∷ more) = with_all (if list_any (same_node m) ids then ids else ids ++ m ∷ []) more
