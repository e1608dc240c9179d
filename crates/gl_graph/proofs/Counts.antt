-- The nodes and the records of a file, counted.
use Rattle.gl_graph.proofs.Words.{[], and_both, ap, ap₂, arith, Bool, born_nodes, cond, cons_option, count_by, false, filter, filter_map, Graph, id_of, ids_of}
use Rattle.gl_graph.proofs.Words.{indexes_of, is_child, is_file_shape, is_index_of_shape, is_live, is_record_of, is_record_shape, IsLawfulGraph, keys_of}
use Rattle.gl_graph.proofs.Words.{length, length-append, List, list_all, no, Node, node_count, NodeId, nodes, none_some, Option, range_with_len, record_count}
use Rattle.gl_graph.proofs.Words.{refl, same_node-equal, shape_of, Some, some_is, split, suc, sum_by-cons, sym, true, ℕ, ◌++◌, ◌+◌, ◌∙◌, ◌∷◌, ◌≡◌}
use Rattle.gl_graph.proofs.Look.{finds, there_is}
use Rattle.gl_graph.proofs.KindRules.{plain_live, file_plain, index_of, index_node}
use Rattle.gl_graph.proofs.Listings.{map_same}
use Rattle.gl_graph.proofs.Born.{place_in, old_at, new_at, none_above, parts}

pub count_cons : {A : Type 0} (p : A → Bool) (x : A) (xs : List A) → count_by p (x ∷ xs) ≡ cond (p x) 1 0 + count_by p xs
count_cons p x xs = sum_by-cons (λ y. cond (p y) 1 0) x xs

-- tests that agree on all that pass q count the same
pub count_same : (q p p' : NodeId → Bool) (xs : List NodeId) → list_all q xs ≡ true → ((x : NodeId) → q x ≡ true → p' x ≡ p x) → count_by p' xs ≡ count_by p xs
count_same q p p' [] all same = refl
count_same q p p' (x ∷ xs) all same = grind (arith, count_same q p p' xs, and_both, count_cons)

pub count_none : (q p : NodeId → Bool) (xs : List NodeId) → list_all q xs ≡ true → ((x : NodeId) → q x ≡ true → p x ≡ false) → count_by p xs ≡ 0
count_none q p [] all none = refl
count_none q p (x ∷ xs) all none = grind (arith, count_none q p xs)

pub filter_none : (q p : NodeId → Bool) (xs : List NodeId) → list_all q xs ≡ true → ((x : NodeId) → q x ≡ true → p x ≡ false) → filter p xs ≡ []
filter_none q p [] all none = refl
filter_none q p (x ∷ xs) all none = grind (arith, filter_none q p xs)

all_mapped : (q : NodeId → Bool) (h : ℕ → Option NodeId) (bs : List ℕ) → ((b : ℕ) (x : NodeId) → h b ≡ Some x → q x ≡ true)
    → list_all q (filter_map h bs) ≡ true
all_mapped q h [] each = refl
all_mapped q h (b ∷ bs) each = grind (arith, all_mapped q h bs each)

pub nodes_live : (g : Graph) → list_all (is_live g) (nodes g) ≡ true
nodes_live g = grind (arith, all_mapped, none_some, some_is, there_is, finds)

-- the ids of nodes that are born
abbrev pub new_ids : ℕ → List Node → List NodeId
new_ids birth ns = ids_of birth (keys_of ns)

pub count_ids : (birth : ℕ) (ns : List Node) → length (new_ids birth ns) ≡ length ns
count_ids birth [] = refl
count_ids birth (n ∷ ns) = ap suc (count_ids (birth + 1) ns)

listed_new : (h : ℕ → Option NodeId) (a : ℕ) (ns : List Node) → ((k b : ℕ) → a + k ≡ b → h b ≡ id_of b (place_in ns k))
    → filter_map h (range_with_len a (length ns)) ≡ new_ids a ns
listed_new h a [] each = refl
listed_new h a (n ∷ ns) each = ap₂ cons_option (each 0 a (omega arith)) (listed_new h (a + 1) ns (λ k b e. each (suc k) b (omega arith)))

module _ (g : Graph) (law : IsLawfulGraph g) (ns : List Node) where
  abbrev grown : Graph
  grown = born_nodes g ns

  pub nodes_grown : nodes grown ≡ nodes g ++ new_ids (g.births + 1) ns
  nodes_grown = grind (arith, parts, map_same, old_at, listed_new, new_at, none_above)

  pub count_grown : node_count grown ≡ node_count g + length ns
  count_grown = ap length nodes_grown ∙ length-append (nodes g) (new_ids (g.births + 1) ns) ∙ ap (λ k. node_count g + k) (count_ids (g.births + 1) ns)

-- an id that names no node has no records and no indexes
module _ (g : Graph) (law : IsLawfulGraph g) (f : NodeId) (dead : is_live g f ≡ false) where
  pub dead_records : record_count g f ≡ 0
  dead_records =
      count_none (is_live g) (is_record_of g f) (nodes g) (nodes_live g)
      (λ r live. split (is_record_of g f r)
      (λ t. absurd (no (sym dead ∙ law.parents_live r f (and_both (is_record_shape (shape_of g r)) (is_child g f r) t).1))) (λ t. t))

  pub dead_indexes : indexes_of g f ≡ []
  dead_indexes =
      filter_none (is_live g) (λ n. is_index_of_shape f (shape_of g n)) (nodes g) (nodes_live g)
      (λ n live. split (is_index_of_shape f (shape_of g n))
      (λ t.
      let index = index_of f (shape_of g n) t in
      let node = index_node g law n index.0 index.1 index.2 index.3 in
      let same : f ≡ index.0 = same_node-equal f index.0 (sym (ap (is_index_of_shape f) index.3) ∙ t) in
      absurd (no (sym dead ∙ plain_live g f (file_plain _ (ap (λ q. is_file_shape (shape_of g q)) same ∙ node.file)))))
      (λ t. t))
