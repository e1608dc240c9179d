-- An index is made of a file over its records: each gets a key, and the interval of it as one more parent. The graph after it, and why it is refused.
use Rattle.std.specs.Prelude.{◌≡◌, ℕ, ◌+◌, Bool, not, ◌&&◌, ◌||◌, ◌==◌, List, [], ◌∷◌, ◌++◌, length, map, Option, Some, None, if◌then◌else◌}
use Rattle.std.specs.List.{list_all}
use Rattle.gl_modes.specs.declared.node.NodeId.{NodeId}
use Rattle.gl_modes.specs.declared.refusal.Refusal.{Refusal}
use Rattle.gl_modes.specs.declared.refusal.Refusal.TheVariants as no
use Rattle.gl_graph.specs.Shapes.{Shape, Rec}
use Rattle.gl_graph.specs.Graph.{Graph, Node, interval_of, is_record_of}
use Rattle.gl_graph.specs.Changes.{IsIndexBorn}
use Rattle.gl_graph.specs.Refusals.{bad_bounds, bad_index_place, first_refusal, is_rising, some_no_node, too_many_nodes, where_true, worn_births}
use Rattle.gl_graph.specs.View.{record_count}

-- of these keys the one for the record of this birth: each record has the key at its place
abbrev pub key_for : List NodeId → List ℕ → ℕ → Option ℕ
key_for [] ks birth = None
key_for (r ∷ rs) [] birth = None
key_for (r ∷ rs) (k ∷ ks) birth = if r.birth == birth then Some k else key_for rs ks birth

-- a record with one more key
abbrev pub keyed_shape : ℕ → Shape → Shape
keyed_shape k (Rec keys) = Rec (keys ++ k ∷ [])
keyed_shape k sh = sh

-- the node, if there is a key for it, with that and the interval of the index that contains it
abbrev pub keyed_node : Graph → NodeId → Option ℕ → Option Node → Option Node
keyed_node g index None o = o
keyed_node g index (Some k) None = None
keyed_node g index (Some k) (Some x) = Some (record x { shape = keyed_shape k x.shape; parents = x.parents ++ interval_of g index k ∷ [] })

-- the graph in which each of these records has one more key, for this index
abbrev pub keyed : Graph → NodeId → List NodeId → List ℕ → Graph
keyed g index rs ks = record g { at = λ b. keyed_node g index (key_for rs ks b) (g.at b) }

-- these are all records of the file, in order of birth, and each has a key
abbrev pub are_keyed : Graph → NodeId → List NodeId → List ℕ → Bool
are_keyed g f rs ks =
    list_all (is_record_of g f) rs && is_rising (0 ∷ map (λ (r : NodeId). r.birth) rs) && (length rs == record_count g f) && (length ks == length rs)

-- why no index of this file can be made over these records, with these keys
abbrev pub over_refusal : Graph → List NodeId → NodeId → List ℕ → List NodeId → List ℕ → Option Refusal
over_refusal g ps f bs rs ks =
    first_refusal (
    worn_births g ∷ some_no_node g (ps ++ f ∷ []) ∷ where_true (bad_index_place g ps f) no.BadParents
    ∷ where_true (bad_bounds g bs || not (are_keyed g f rs ks)) no.BadKeys ∷ too_many_nodes g (2 + length bs) ∷ []
    )

-- the index n is born, and then each of these records has a key for it
pub record IsIndexOver (g g' : Graph) (n : NodeId) (parents : List NodeId) (file : NodeId) (bounds : List ℕ) (records : List NodeId)
    (keys : List ℕ) : Type 0 where
  pub born : Graph
  pub index : IsIndexBorn g born n parents file bounds
  pub after : g' ≡ keyed born n records keys
