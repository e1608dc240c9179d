-- An interval of an index is split in two at a bound, and two neighbours are merged: the graph after it, and why it is refused.
use Rattle.std.specs.Prelude.{◌≡◌, ℕ, ◌+◌, Bool, not, ◌&&◌, ◌||◌, ◌==◌, nat_lt, nat_le, List, [], ◌∷◌, length, Option, Some, None, if◌then◌else◌}
use Rattle.std.specs.List.{insert, remove, position_or_len}
use Rattle.gl_modes.specs.declared.node.NodeId.{NodeId}
use Rattle.gl_modes.specs.Nodes.{same_node}
use Rattle.gl_modes.specs.declared.refusal.Refusal.{Refusal}
use Rattle.gl_modes.specs.declared.refusal.Refusal.TheVariants as no
use Rattle.gl_graph.specs.Shapes.{Shape, Index, Interval, Rec, bounds_in, intervals_in, is_interval_shape}
use Rattle.gl_graph.specs.Graph.{Graph, Node, shape_of, first_in, first_parent, interval, record_parents, no_node, IsFreeKey}
use Rattle.gl_graph.specs.Changes.{born_node, without_node}
use Rattle.gl_graph.specs.Intervals.{beginning}
use Rattle.gl_graph.specs.Refusals.{first_refusal, where_true, worn_births, some_no_node, too_many_nodes}

-- the file of an index; the id that names no node for another shape
abbrev pub file_of : Option Shape → NodeId
file_of (Some (Index file bounds intervals)) = file
file_of o = no_node

-- the place of an interval among those of its index
abbrev pub place_among : Graph → NodeId → ℕ
place_among g i = position_or_len (λ j. same_node j i) (intervals_in (shape_of g (first_parent g i)))

-- the bounds of an interval's index
abbrev pub bounds_around : Graph → NodeId → List ℕ
bounds_around g i = bounds_in (shape_of g (first_parent g i))

-- the interval after it in its index
abbrev pub next_interval : Graph → NodeId → NodeId
next_interval g i = interval g (first_parent g i) (place_among g i + 1)

-- the parents that a node is to have: a record of file f those of its keys, any other node its own
abbrev pub settled_parents : Graph → NodeId → Shape → List NodeId → List NodeId
settled_parents g f (Rec keys) ps = if same_node (first_in ps) f then record_parents g f keys else ps
settled_parents g f sh ps = ps

-- the node with those parents
abbrev pub settled_node : Graph → NodeId → Option Node → Option Node
settled_node g f None = None
settled_node g f (Some x) = Some (record x { parents = settled_parents g f x.shape x.parents })

-- the graph in which each record of the file has the parents of its keys
abbrev pub settled : Graph → NodeId → Graph
settled g f = record g { at = λ b. settled_node g f (g.at b) }

-- the node with another shape
abbrev pub reshaped_node : (Shape → Shape) → Option Node → Option Node
reshaped_node change None = None
reshaped_node change (Some x) = Some (record x { shape = change x.shape })

-- the graph in which the node has another shape
abbrev pub reshaped : Graph → NodeId → (Shape → Shape) → Graph
reshaped g x change = record g { at = λ b. if b == x.birth then reshaped_node change (g.at b) else g.at b }

-- an index whose interval at this place ends at the bound, and n is the interval from there on
abbrev pub split_shape : ℕ → ℕ → NodeId → Shape → Shape
split_shape place bound n (Index file bounds intervals) = Index file (insert bounds place bound) (insert intervals (place + 1) n)
split_shape place bound n sh = sh

-- an index whose interval at this place also has the keys of the next one, which is gone
abbrev pub merged_shape : ℕ → Shape → Shape
merged_shape place (Index file bounds intervals) = Index file (remove bounds place) (remove intervals (place + 1))
merged_shape place sh = sh

-- the graph in which interval i keeps its keys below the bound, and a new node with this key and the next birth is the interval that has the others
abbrev pub split : Graph → NodeId → ℕ → ℕ → Graph
split g i bound key =
    let index = first_parent g i in
    let n : NodeId = record { key = key; birth = g.births + 1 } in
    settled (reshaped (born_node g (record { key = key; shape = Interval; parents = index ∷ [] })) index (split_shape (place_among g i) bound n))
    (file_of (shape_of g index))

-- the graph in which interval i also has the keys of the next interval of its index, which is removed
abbrev pub merge : Graph → NodeId → Graph
merge g i =
    let index = first_parent g i in
    settled (reshaped (without_node g (next_interval g i)) index (merged_shape (place_among g i))) (file_of (shape_of g index))

-- the node is no interval
abbrev pub no_interval : Graph → NodeId → Bool
no_interval g i = not (is_interval_shape (shape_of g i))

-- the bound is above the first key of the interval, and below the next bound if there is one
abbrev pub is_inside : Graph → NodeId → ℕ → Bool
is_inside g i bound =
    let bounds = bounds_around g i in
    let place = place_among g i in
    nat_lt (beginning bounds place) bound && (nat_le (length bounds) place || nat_lt bound (beginning bounds (place + 1)))

-- no bound can be put there: it is not inside the interval, or the index has as many bounds as it may have
abbrev pub bad_bound : Graph → NodeId → ℕ → Bool
bad_bound g i bound = not (is_inside g i bound) || nat_le g.most_bounds (length (bounds_around g i))

-- why the interval cannot be split at this bound, if it cannot
abbrev pub split_refusal : Graph → NodeId → ℕ → Option Refusal
split_refusal g i bound =
    first_refusal (
    worn_births g ∷ some_no_node g (i ∷ []) ∷ where_true (no_interval g i) no.BadParents ∷ where_true (bad_bound g i bound) no.BadKeys
    ∷ too_many_nodes g 1 ∷ []
    )

-- the node is no interval, or the last of its index
abbrev pub has_no_next : Graph → NodeId → Bool
has_no_next g i = no_interval g i || nat_le (length (bounds_around g i)) (place_among g i)

-- why the interval cannot be merged with the next one, if it cannot
abbrev pub merge_refusal : Graph → NodeId → Option Refusal
merge_refusal g i = first_refusal (some_no_node g (i ∷ []) ∷ where_true (has_no_next g i) no.BadParents ∷ [])

-- interval i is split at the bound, and n is born, under a key that no living node has, as the interval from there on
pub record IsSplit (g g' : Graph) (i n : NodeId) (bound : ℕ) : Type 0 where
  pub key_free : IsFreeKey g n.key
  pub birth : n.birth ≡ g.births + 1
  pub after : g' ≡ split g i bound n.key
