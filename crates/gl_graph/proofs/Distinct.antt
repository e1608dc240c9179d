-- No node is listed twice, among the nodes or among the indexes of a file.
use Rattle.gl_graph.proofs.Words.{[], AllByRecursion, and_both, are_distinct, arith, Bool, both, false, filter, filter_map, get_or_from_slice_get, Graph}
use Rattle.gl_graph.proofs.Words.{indexes_of, is_index_of_shape, is_live, IsLawfulGraph, length, List, list_any, no, no_node, NodeId, nodes, none_some, not}
use Rattle.gl_graph.proofs.Words.{not-true, Option, or_left, or_right, range_with_len, refl, same_node, same_node-from_equal, shape_of, slice_get}
use Rattle.gl_graph.proofs.Words.{slice_get_within, slice_index_or, Some, some_is, suc, sym, true, zero, ℕ, ◌+◌, ◌<◌, ◌∙◌, ◌∷◌, ◌≡◌}
use Rattle.std.specs.List.{IsDistinct}
use Rattle.std.proofs.lemmas.Map.Made.{length-from_same_keys}
use Rattle.gl_graph.proofs.Look.{listed_at}
use Rattle.gl_graph.proofs.RouteLengths.{listed, node_equivalence}
use Rattle.gl_graph.proofs.Unrefused.{or_no}

-- an item of a listing has the requested birth
module _ (h : ℕ → Option NodeId) (born : (b : ℕ) (x : NodeId) → h b ≡ Some x → x.birth ≡ b) where
  not_below : (q : NodeId) (a n : ℕ) → q.birth < a → list_any (same_node q) (filter_map h (range_with_len a n)) ≡ false
  not_below q a zero low = refl
  not_below q a (suc n) low = grind (arith, not_below q (a + 1) n (omega arith))

  distinct_from : (a n : ℕ) → are_distinct (filter_map h (range_with_len a n)) ≡ true
  distinct_from a zero = refl
  distinct_from a (suc n) = grind (arith, distinct_from (a + 1) n, both, not_below)

pub nodes_distinct : (g : Graph) → are_distinct (nodes g) ≡ true
nodes_distinct g = grind (arith, distinct_from, none_some, some_is)

module _ (p : NodeId → Bool) where
  none_filtered : (q : NodeId) (xs : List NodeId) → list_any (same_node q) xs ≡ false → list_any (same_node q) (filter p xs) ≡ false
  none_filtered q [] h = refl
  none_filtered q (x ∷ xs) h = grind (arith, none_filtered q xs)

  pub filter_distinct : (xs : List NodeId) → are_distinct xs ≡ true → are_distinct (filter p xs) ≡ true
  filter_distinct [] h = refl
  filter_distinct (x ∷ xs) h = grind (arith, filter_distinct xs, and_both, both, none_filtered, not-true)

  pub any_filtered : (q : NodeId) (xs : List NodeId) → list_any (same_node q) xs ≡ true → p q ≡ true → list_any (same_node q) (filter p xs) ≡ true
  any_filtered q [] h k = absurd (no h)
  any_filtered q (x ∷ xs) h k = grind (arith, any_filtered q xs)

pub indexes_distinct : (g : Graph) (f : NodeId) → are_distinct (indexes_of g f) ≡ true
indexes_distinct g f = filter_distinct (λ n. is_index_of_shape f (shape_of g n)) (nodes g) (nodes_distinct g)

pub index_listed : (g : Graph) (law : IsLawfulGraph g) (f i : NodeId) → is_live g i ≡ true → is_index_of_shape f (shape_of g i) ≡ true
    → list_any (same_node i) (indexes_of g f) ≡ true
index_listed g law f i live h = any_filtered (λ n. is_index_of_shape f (shape_of g n)) i (nodes g) (listed g law i live) h

any_at : (q : NodeId) (xs : List NodeId) (k : ℕ) (d : NodeId) → k < length xs → slice_index_or xs k d ≡ q → list_any (same_node q) xs ≡ true
any_at q [] k d low e = absurd (omega arith)
any_at q (x ∷ xs) zero d low e = or_left _ _ (same_node-from_equal q x (sym e))
any_at q (x ∷ xs) (suc k) d low e = or_right (same_node q x) _ (any_at q xs k d (omega arith) e)

-- one place for each
pub one_place : (xs : List NodeId) (i j : ℕ) (d : NodeId) → are_distinct xs ≡ true → i < length xs → j < length xs
    → slice_index_or xs i d ≡ slice_index_or xs j d → i ≡ j
one_place [] i j d h low high e = absurd (omega arith)
one_place (x ∷ xs) zero zero d h low high e = refl
one_place (x ∷ xs) zero (suc j) d h low high e = grind (arith, no, any_at, and_both)
one_place (x ∷ xs) (suc i) zero d h low high e = grind (arith, no, any_at, and_both)
one_place (x ∷ xs) (suc i) (suc j) d h low high e = grind (arith, one_place xs i j d)

-- different living nodes have different keys
pub keys_apart : (g : Graph) → ((m n : NodeId) → is_live g m ≡ true → is_live g n ≡ true → m.key ≡ n.key → m ≡ n) → (ids : List NodeId)
    → are_distinct ids ≡ true
    → ((n : NodeId) → list_any (same_node n) ids ≡ true → is_live g n ≡ true) → (place other : ℕ) (m n : NodeId)
    → slice_get ids place ≡ Some m → slice_get ids other ≡ Some n → m.key ≡ n.key → place ≡ other
keys_apart g keys ids distinct live place other m n at at' same =
    let equal = keys m n (live m (listed_at ids place m at)) (live n (listed_at ids other n at')) same in
    one_place ids place other no_node distinct (slice_get_within ids place m at) (slice_get_within ids other n at')
    (get_or_from_slice_get ids place m no_node at ∙ equal ∙ sym (get_or_from_slice_get ids other n no_node at'))

-- as std says it
none_same : (x : NodeId) (xs : List NodeId) → list_any (same_node x) xs ≡ false → AllByRecursion (λ y. same_node x y ≡ false) xs
none_same x [] h = tt
none_same x (y ∷ ys) h = let t = or_no (same_node x y) (list_any (same_node x) ys) h in (t.0, none_same x ys t.1)

distinct_is : (xs : List NodeId) → are_distinct xs ≡ true → IsDistinct same_node xs
unfolding IsDistinct
distinct_is [] h = tt
distinct_is (x ∷ xs) h =
    let t = and_both (not (list_any (same_node x) xs)) (are_distinct xs) h in (none_same x xs (not-true (list_any (same_node x) xs) t.0), distinct_is xs t.1)

-- lists of different nodes are equally long if they have the same nodes
pub same_length : (xs ys : List NodeId) → are_distinct xs ≡ true → are_distinct ys ≡ true
    → ((q : NodeId) → list_any (same_node q) xs ≡ list_any (same_node q) ys) → length xs ≡ length ys
same_length xs ys h k same = length-from_same_keys node_equivalence xs ys (distinct_is xs h) (distinct_is ys k) same
