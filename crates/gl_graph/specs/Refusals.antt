-- Why the graph's own calls are refused: the first of their tests, in order, that gives a refusal.
use Rattle.std.specs.Prelude.{◌≡◌, ℕ, ◌+◌, ◌-◌, ◌^◌, Bool, true, false, not, ◌&&◌, ◌||◌, ◌==◌, nat_lt, nat_le, List, [], ◌∷◌, ◌++◌, length, Option, Some}
use Rattle.std.specs.Prelude.{None, Result, Ok, Err, IfErr, if◌then◌else◌}
use Rattle.std.specs.List.{list_all, list_any}
use Rattle.gl_modes.specs.declared.node.NodeId.{NodeId}
use Rattle.gl_modes.specs.declared.refusal.Refusal.{Refusal}
use Rattle.gl_modes.specs.declared.refusal.Refusal.TheVariants as no
use Rattle.gl_graph.specs.Shapes.{Shape, Inner, File, Index, is_file_shape, is_adopted, is_movable_shape}
use Rattle.gl_graph.specs.Graph.{Graph, nodes, node_count, is_live, shape_of, is_child, indexes_of, is_record_of}
use Rattle.gl_graph.specs.Routes.{is_at_or_below}
use Rattle.gl_graph.specs.Lawful.{are_inner, are_distinct}

-- the first refusal among these
abbrev pub first_refusal : List (Option Refusal) → Option Refusal
first_refusal [] = None
first_refusal (None ∷ rs) = first_refusal rs
first_refusal (Some r ∷ rs) = Some r

-- this refusal, if the test is true
abbrev pub where_true : Bool → Refusal → Option Refusal
where_true b r = if b then Some r else None

-- the greatest `u64`
abbrev pub max_count : ℕ
max_count = 2 ^ 64 - 1

-- too few births are left for a full graph of new nodes
abbrev pub births_worn : Graph → Bool
births_worn g = nat_lt (max_count - g.most) g.births

-- refuses if too few births are left
abbrev pub worn_births : Graph → Option Refusal
worn_births g = where_true (births_worn g) no.WornOut

-- one of these names no node
abbrev pub some_no_node : Graph → List NodeId → Option Refusal
some_no_node g ns = where_true (not (list_all (is_live g) ns)) no.NoSuchNode

-- too few or too many parents, one that is no inner node, or one twice
abbrev pub bad_parents : Graph → ℕ → List NodeId → Bool
bad_parents g least ps = nat_lt (length ps) least || nat_lt 8 (length ps) || not (are_inner g ps) || not (are_distinct ps)

-- so many more nodes would exceed the limit
abbrev pub too_many_nodes : Graph → ℕ → Option Refusal
too_many_nodes g more = where_true (nat_lt g.most (node_count g + more)) no.TooManyNodes

-- the file has records
abbrev pub has_records : Graph → NodeId → Bool
has_records g f = list_any (is_record_of g f) (nodes g)

-- these numbers strictly increase
abbrev pub is_rising : List ℕ → Bool
is_rising [] = true
is_rising (b ∷ bs) = list_all (λ c. nat_lt b c) bs && is_rising bs

-- more bounds than an index may have, or bounds that do not strictly increase from above 0
abbrev pub bad_bounds : Graph → List ℕ → Bool
bad_bounds g bs = nat_lt g.most_bounds (length bs) || not (is_rising (0 ∷ bs))

-- why no inner node or file can be made under these parents: an inner node needs none, a file at least one
abbrev pub parents_refusal : Graph → ℕ → List NodeId → Option Refusal
parents_refusal g least ps =
    first_refusal (worn_births g ∷ some_no_node g ps ∷ where_true (bad_parents g least ps) no.BadParents ∷ too_many_nodes g 1 ∷ [])

-- why no inner node can be made under these parents, if none can
abbrev pub inner_refusal : Graph → List NodeId → Option Refusal
inner_refusal g ps = parents_refusal g 0 ps

-- why no file can be made under these parents, if none can
abbrev pub file_refusal : Graph → List NodeId → Option Refusal
file_refusal g ps = parents_refusal g 1 ps

-- no index of this file can be made under these parents: one of them is bad, or the file is no file or has seven
abbrev pub bad_index_place : Graph → List NodeId → NodeId → Bool
bad_index_place g ps f = bad_parents g 1 ps || not (is_file_shape (shape_of g f)) || nat_le 7 (length (indexes_of g f))

-- why no index of this file can be made under these parents, with these bounds, given whether the file is in use
abbrev pub index_refusal_where : Graph → Bool → List NodeId → NodeId → List ℕ → Option Refusal
index_refusal_where g in_use ps f bs =
    first_refusal (
    worn_births g ∷ some_no_node g (ps ++ f ∷ []) ∷ where_true (bad_index_place g ps f) no.BadParents ∷ where_true in_use no.FileInUse
    ∷ where_true (bad_bounds g bs) no.BadKeys ∷ too_many_nodes g (2 + length bs) ∷ []
    )

-- why no index of this file can be made, which is in use if it has records or rows of it were adopted
abbrev pub index_refusal : Graph → List NodeId → NodeId → List ℕ → Option Refusal
index_refusal g ps f bs = index_refusal_where g (has_records g f || is_adopted (shape_of g f)) ps f bs

-- why no index of this file can be made, which is in use only if it has records
abbrev pub reindex_refusal : Graph → List NodeId → NodeId → List ℕ → Option Refusal
reindex_refusal g ps f bs = index_refusal_where g (has_records g f) ps f bs

-- why no record of this file can be made with these keys
abbrev pub record_refusal : Graph → NodeId → List ℕ → Option Refusal
record_refusal g f keys =
    first_refusal (
    worn_births g ∷ some_no_node g (f ∷ []) ∷ where_true (not (is_file_shape (shape_of g f))) no.BadParents
    ∷ where_true (not (length keys == length (indexes_of g f))) no.BadKeys ∷ too_many_nodes g 1 ∷ []
    )

-- the node has a child
abbrev pub has_children : Graph → NodeId → Bool
has_children g n = list_any (is_child g n) (nodes g)

-- the node is in use: an inner node has a child, a file a record or an index, an index's file a record
abbrev pub is_shape_in_use : Graph → NodeId → Option Shape → Bool
is_shape_in_use g n (Some Inner) = has_children g n
is_shape_in_use g n (Some (File adopted)) = has_records g n || nat_lt 0 (length (indexes_of g n))
is_shape_in_use g n (Some (Index file bounds intervals)) = has_records g file
is_shape_in_use g n s = false

-- the node that the id names is in use
abbrev pub is_in_use : Graph → NodeId → Bool
is_in_use g n = is_shape_in_use g n (shape_of g n)

-- why a node can never be dropped: the id names none, or an interval, which is dropped with its index, or a record
abbrev pub undroppable : Graph → NodeId → Option Refusal
undroppable g n = first_refusal (some_no_node g (n ∷ []) ∷ where_true (not (is_movable_shape (shape_of g n))) no.BadParents ∷ [])

-- a cycle at the first of these that is n or has a route to n
abbrev pub first_cycle : Graph → NodeId → List NodeId → Option Refusal
first_cycle g n [] = None
first_cycle g n (p ∷ ps) = if is_at_or_below (node_count g) g n p then Some (no.Cycle p) else first_cycle g n ps

-- a call answers this refusal; if there is none, it is refused for lack of memory alone
abbrev pub Refuses : {T : Type 0} → Option Refusal → Result T Refusal → Type 0
Refuses (Some r) result = result ≡ Err r
Refuses None result = IfErr result (λ r. r ≡ no.NoMemory)

-- what a function that only tests answers
abbrev pub verdict : Option Refusal → Result (Unit {0}) Refusal
verdict None = Ok tt
verdict (Some r) = Err r
