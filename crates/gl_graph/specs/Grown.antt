-- Intervals are inserted into a slab of nodes one after the other, and removed so.
use Rattle.std.specs.Prelude.{◌≡◌, ◌≢◌, ◌⊎◌, ℕ, ◌+◌, ◌<◌, true, ◌==◌, List, length, Some, None, is_some, slice_get}
use Rattle.std.specs.List.{list_any}
use Rattle.gl_modes.specs.declared.node.NodeId.{NodeId}
use Rattle.slab.specs.Slab.{Slab, Updates, get, slab_len}
use Rattle.gl_graph.specs.declared.node.Body.{Body}
use Rattle.gl_graph.specs.declared.node.Node.{Node as Stored}
use Rattle.gl_graph.specs.Shapes.{Interval}
use Rattle.gl_graph.specs.Graph.{Node}
use Rattle.gl_graph.specs.Changes.{born_nodes, ids_of, interval_nodes, keys_of, are_apart}
use Rattle.gl_graph.specs.View.{graph_of}
use Rattle.gl_graph.specs.Splits.{merged_shape}
use Rattle.gl_graph.specs.Seen.{beside_in_body, shape_in_body, parents_in_body, children_in_body, body_with_children, Limits, seen, AreBornApart, AreBornWithin}

-- these nodes were born, in this order, and all others stay as they were
pub record IsGrown (old : Slab Stored) (births : ℕ) (new : Slab Stored) (ns : List Node) : Type 0 where
  pub graph : (limits : Limits) → graph_of (seen limits new (births + length ns)) ≡ born_nodes (graph_of (seen limits old births)) ns
  pub apart : AreBornApart new
  pub within : AreBornWithin new (births + length ns)
  pub len : slab_len new ≡ slab_len old + length ns
  pub stays : (k : ℕ) (x : Stored) → get old k ≡ Some x → get new k ≡ Some x
  pub came : (k : ℕ) (x : Stored) → get new k ≡ Some x → (get old k ≡ Some x) ⊎ (shape_in_body x.body ≡ Interval)
  pub vacant : (k : ℕ) → list_any (λ y. y == k) (keys_of ns) ≡ true → get old k ≡ None
  pub taken : (k : ℕ) → list_any (λ y. y == k) (keys_of ns) ≡ true → is_some (get new k) ≡ true
  pub keys_apart : are_apart (keys_of ns) ≡ true

-- so many intervals of an index were born right after it
pub record AreIntervalsBorn (old new : Slab Stored) (index : NodeId) (count : ℕ) (ids : List NodeId) : Type 0 where
  pub keys : List ℕ
  pub many : length keys ≡ count
  pub grown : IsGrown old index.birth new (interval_nodes index keys)
  pub ids_are : ids ≡ ids_of (index.birth + 1) keys

-- the nodes with these ids are stored, each under its own key
pub record AreStored (nodes : Slab Stored) (ids : List NodeId) : Type 0 where
  pub there : (place : ℕ) (n : NodeId) → slice_get ids place ≡ Some n → is_some (get nodes n.key) ≡ true
  pub apart : (place other : ℕ) (m n : NodeId) → slice_get ids place ≡ Some m → slice_get ids other ≡ Some n → m.key ≡ n.key → place ≡ other

-- each of these stores such a number of children
abbrev pub EachKeeps : (ℕ → Type 0) → Slab Stored → List NodeId → Type 0
EachKeeps Such nodes ids = (place : ℕ) (n : NodeId) (x : Stored) → slice_get ids place ≡ Some n → get nodes n.key ≡ Some x → Such (children_in_body x.body)

-- the first so many of these store another number of children, and all else stays as it was
pub record AreRecounted (fresh : ℕ → ℕ) (old new : Slab Stored) (ids : List NodeId) (count : ℕ) : Type 0 where
  pub counted : (place : ℕ) (n : NodeId) (x : Stored) → place < count → slice_get ids place ≡ Some n → get old n.key ≡ Some x
      → get new n.key ≡ Some (record x { body = body_with_children x.body (fresh (children_in_body x.body)) })
  pub stays : (key : ℕ) → ((place : ℕ) (n : NodeId) → place < count → slice_get ids place ≡ Some n → n.key ≢ key) → get new key ≡ get old key
  pub len : slab_len new ≡ slab_len old

-- the first so many of these are removed, and all other nodes stay as they were
pub record AreGone (old new : Slab Stored) (ids : List NodeId) (count : ℕ) : Type 0 where
  pub gone : (place : ℕ) (n : NodeId) → place < count → slice_get ids place ≡ Some n → get new n.key ≡ None
  pub stays : (key : ℕ) → ((place : ℕ) (n : NodeId) → place < count → slice_get ids place ≡ Some n → n.key ≢ key) → get new key ≡ get old key
  pub len : slab_len new + count ≡ slab_len old

-- this index loses the bound at this place, and the interval that begins there
pub record LosesCut (old new : Slab Stored) (key place : ℕ) (x : Stored) : Type 0 where
  pub body : Body
  pub updates : Updates old new key (Some (record x { body = body }))
  pub shape : shape_in_body body ≡ merged_shape place (shape_in_body x.body)
  pub parents : parents_in_body body ≡ parents_in_body x.body
  pub beside : beside_in_body body ≡ beside_in_body x.body
