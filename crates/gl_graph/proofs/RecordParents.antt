-- The parents of a record: one file, and one interval for each of its indexes.
use Rattle.gl_graph.proofs.Words.{[], and_both, ap, arith, Bool, false, first_parent, Graph, indexes_of, interval_of, intervals_of, is_file_shape}
use Rattle.gl_graph.proofs.Words.{is_index_of_shape, is_index_shape, is_record_of, is_record_shape, IsLawfulGraph, keys_in, length, List, list_all, list_any}
use Rattle.gl_graph.proofs.Words.{no, NodeId, nodes, Option, or-false, parents_in, parents_of, Rec, record_parents, refl, rules, same_node, same_node-equal}
use Rattle.gl_graph.proofs.Words.{Shape, shape_in, shape_of, slice_index_or, Some, split, subst, suc, sym, true, zero, ℕ, ◌<◌, ◌||◌, ◌∙◌, ◌∷◌, ◌≡◌}
use Rattle.gl_graph.proofs.Look.{all_filter, shaped_node}
use Rattle.gl_graph.proofs.KindRules.{interval_is}
use Rattle.gl_graph.proofs.Moved.{file_of_record}

pub all_at_place : {A : Type 0} (p : A → Bool) (xs : List A) (k : ℕ) (d : A) → list_all p xs ≡ true → k < length xs → p (slice_index_or xs k d) ≡ true
all_at_place p [] k d all low = absurd (omega arith)
all_at_place p (x ∷ xs) zero d all low = (and_both (p x) _ all).0
all_at_place p (x ∷ xs) (suc k) d all low = all_at_place p xs k d (and_both (p x) _ all).1 (omega arith)

pub index_of_index : (f : NodeId) (o : Option Shape) → is_index_of_shape f o ≡ true → is_index_shape o ≡ true
index_of_index f o h = search rules

-- each index of a file is an index
pub listed_index : (g : Graph) (f : NodeId) (k : ℕ) (d : NodeId) → k < length (indexes_of g f)
    → is_index_of_shape f (shape_of g (slice_index_or (indexes_of g f) k d)) ≡ true
listed_index g f k d low = all_at_place (λ i. is_index_of_shape f (shape_of g i)) (indexes_of g f) k d
    (all_filter (λ i. is_index_of_shape f (shape_of g i)) (nodes g)) low

module _ (g : Graph) (law : IsLawfulGraph g) where
  no_file_among : (f n : NodeId) (is : List NodeId) (keys : List ℕ) → list_all (λ i. is_index_of_shape f (shape_of g i)) is ≡ true
      → is_file_shape (shape_of g n) ≡ true → list_any (same_node n) (intervals_of g is keys) ≡ false
  no_file_among f n [] keys h k = refl
  no_file_among f n (i ∷ is) [] h k = refl
  no_file_among f n (i ∷ is) (key ∷ keys) h k =
      let t = and_both _ _ h in
      split (same_node n (interval_of g i key))
      (λ same. absurd (no (sym (ap is_file_shape (ap (shape_of g) (same_node-equal n _ same) ∙ ap shape_in (interval_is g law f i key t.0))) ∙ k)))
      (λ other. ap (λ b. b || list_any (same_node n) (intervals_of g is keys)) other ∙ no_file_among f n is keys t.1 k)

  -- of a record's parents only the file is a file
  pub file_among : (f n : NodeId) (keys : List ℕ) → is_file_shape (shape_of g n) ≡ true → list_any (same_node n) (record_parents g f keys) ≡ same_node n f
  file_among f n keys h =
      ap (λ b. same_node n f || b) (no_file_among f n (indexes_of g f) keys (all_filter (λ i. is_index_of_shape f (shape_of g i)) (nodes g)) h)
      ∙ or-false (same_node n f)

-- a record has keys
pub record_shape : (o : Option Shape) → is_record_shape o ≡ true → (keys : List ℕ) × (o ≡ Some (Rec keys))
record_shape (Some (Rec keys)) h = (keys, refl)
record_shape _ h = absurd (no h)

-- a living record: its file is its first parent
module _ (g : Graph) (law : IsLawfulGraph g) (r : NodeId) (rec : is_record_shape (shape_of g r) ≡ true) where
  of_file : (is_file_shape (shape_of g (first_parent g r)) ≡ true) × (length (keys_in (shape_of g r)) ≡ length (indexes_of g (first_parent g r)))
      × (parents_of g r ≡ record_parents g (first_parent g r) (keys_in (shape_of g r)))
  of_file =
      let keys = record_shape (shape_of g r) rec in
      let node = shaped_node g r (Rec keys.0) keys.1 in
      let file = file_of_record g law r node.0 node.1 keys.0 node.2 in
      let same : keys.0 ≡ keys_in (shape_of g r) = sym (ap keys_in keys.1) in
      subst (λ ks. (is_file_shape (shape_of g (first_parent g r)) ≡ true) × (length ks ≡ length (indexes_of g (first_parent g r)))
      × (parents_of g r ≡ record_parents g (first_parent g r) ks)) same
      (file.0, file.1, ap parents_in node.1 ∙ file.3)

  pub its_file : is_file_shape (shape_of g (first_parent g r)) ≡ true
  its_file = of_file.0

  pub its_keys : length (keys_in (shape_of g r)) ≡ length (indexes_of g (first_parent g r))
  its_keys = of_file.1

  pub its_parents : parents_of g r ≡ record_parents g (first_parent g r) (keys_in (shape_of g r))
  its_parents = of_file.2

  -- it is a record of its file alone
  pub record_of_file : (f : NodeId) → is_file_shape (shape_of g f) ≡ true → is_record_of g f r ≡ same_node f (first_parent g r)
  record_of_file f h = grind (arith, its_parents, file_among)
