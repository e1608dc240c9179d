-- Stored records get one more key each, and the interval of it as one more parent.
use Rattle.std.specs.Prelude.{◌≡◌, ◌≢◌, ℕ, ◌<◌, true, List, [], ◌∷◌, ◌++◌, length, Some, slice_get, slice_index_or}
use Rattle.gl_modes.specs.declared.node.NodeId.{NodeId}
use Rattle.slab.specs.Slab.{Slab, get, slab_len}
use Rattle.gl_graph.specs.declared.node.Body.{Body}
use Rattle.gl_graph.specs.declared.node.Node.{Node as Stored}
use Rattle.gl_graph.specs.Shapes.{Rec, bounds_in, intervals_in, is_record_shape, keys_in}
use Rattle.gl_graph.specs.Graph.{interval_place, no_node}
use Rattle.gl_graph.specs.Lawful.{IsRising}
use Rattle.gl_graph.specs.Grown.{AreStored}
use Rattle.gl_graph.specs.Seen.{parents_in_body, shape_in_body}

-- a record with this key and this parent after those that it had
pub record HasOneMore (was b : Body) (key : ℕ) (parent : NodeId) : Type 0 where
  pub shape : shape_in_body b ≡ Rec (keys_in (Some (shape_in_body was)) ++ key ∷ [])
  pub parents : parents_in_body b ≡ parents_in_body was ++ parent ∷ []

-- these are stored as records, each under its own key, with room for one more key
pub record AreRecordsStored (nodes : Slab Stored) (rs : List NodeId) : Type 0 where
  pub stored : AreStored nodes rs
  pub few : (place : ℕ) (r : NodeId) (x : Stored) → slice_get rs place ≡ Some r → get nodes r.key ≡ Some x
      → (is_record_shape (Some (shape_in_body x.body)) ≡ true) × (length (keys_in (Some (shape_in_body x.body))) < 7) × (length (parents_in_body x.body) < 8)

-- so many bodies, with one more key for each of these records, whose parent for it is yet to be set
pub record AreBodiesFor (nodes : Slab Stored) (rs : List NodeId) (ks : List ℕ) (bodies : List Body) (count : ℕ) : Type 0 where
  pub many : length bodies ≡ count
  pub each : (place : ℕ) (r : NodeId) (x : Stored) (b : Body) → slice_get rs place ≡ Some r → get nodes r.key ≡ Some x → slice_get bodies place ≡ Some b
      → HasOneMore x.body b (slice_index_or ks place 0) no_node

-- the interval of an index, as stored, that contains a key
abbrev pub interval_in_body : Body → ℕ → NodeId
interval_in_body b k = slice_index_or (intervals_in (Some (shape_in_body b))) (interval_place (bounds_in (Some (shape_in_body b))) k) no_node

-- an index is stored there, with an interval for each key
pub record IsIndexStored (nodes : Slab Stored) (at : ℕ) : Type 0 where
  pub x : Stored
  pub there : get nodes at ≡ Some x
  pub rising : IsRising (bounds_in (Some (shape_in_body x.body)))
  pub each : (k : ℕ) → interval_place (bounds_in (Some (shape_in_body x.body))) k < length (intervals_in (Some (shape_in_body x.body)))

-- an index and these records are stored apart, with a body and a key for each record
pub record CanBeKeyed (nodes : Slab Stored) (at : ℕ) (rs : List NodeId) (ks : List ℕ) (bodies : List Body) : Type 0 where
  pub index : IsIndexStored nodes at
  pub apart : (place : ℕ) (r : NodeId) → slice_get rs place ≡ Some r → r.key ≢ at
  pub stored : AreRecordsStored nodes rs
  pub bodies_are : AreBodiesFor nodes rs ks bodies (length rs)
  pub a_key_each : length ks ≡ length rs

-- a stored node, with one more key and the interval of it
pub record IsKeyed (new : Slab Stored) (at : ℕ) (x : Stored) (key : ℕ) (interval : NodeId) : Type 0 where
  pub now : Stored
  pub there : get new at ≡ Some now
  pub birth : now.birth ≡ x.birth
  pub more : HasOneMore x.body now.body key interval

-- the first so many of these records have one more key each, and all else stays as it was
pub record AreKeyed (old new : Slab Stored) (interval : ℕ → NodeId) (rs : List NodeId) (ks : List ℕ) (count : ℕ) : Type 0 where
  pub keyed : (place : ℕ) (r : NodeId) (x : Stored) → place < count → slice_get rs place ≡ Some r → get old r.key ≡ Some x
      → IsKeyed new r.key x (slice_index_or ks place 0) (interval (slice_index_or ks place 0))
  pub stays : (key : ℕ) → ((place : ℕ) (r : NodeId) → place < count → slice_get rs place ≡ Some r → r.key ≢ key) → get new key ≡ get old key
  pub len : slab_len new ≡ slab_len old
