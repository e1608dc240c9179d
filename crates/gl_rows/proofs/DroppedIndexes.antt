-- A node is dropped: a file keeps its other indexes, and if a file and its keys are a row before and after, its parents are the same nodes.
use Rattle.std.specs.Prelude.{◌≡◌, ℕ, Bool, true, false, not, List, [], ◌∷◌, ◌++◌, length, Option, slice_index_or, if◌then◌else◌}
use Rattle.std.specs.List.{filter, list_all, list_any}
use Rattle.std.proofs.Common.{refl, sym, ap, ◌∙◌, arith, rules}
use Rattle.std.proofs.lemmas.List.{nil_from_length}
use Rattle.std.proofs.lemmas.List.Elements.{filter-append}
use Rattle.std.proofs.lemmas.List.Filters.{length-filter_both}
use Rattle.gl_modes.proofs.Words.{and_both, clash, no, not_true, split}
use Rattle.gl_modes.proofs.NodeLemmas.{same_node-equal}
use Rattle.gl_modes.specs.declared.node.NodeId.{NodeId}
use Rattle.gl_modes.specs.Nodes.{same_node}
use Rattle.gl_graph.specs.Changes.{without_branch}
use Rattle.gl_graph.specs.Graph.{Graph, indexes_of, interval_of, interval_place, no_node, nodes, record_parents, shape_in, shape_of}
use Rattle.gl_graph.specs.Lawful.{IsLawfulGraph}
use Rattle.gl_graph.specs.Refusals.{is_in_use}
use Rattle.gl_graph.specs.Shapes.{Shape, bounds_in, intervals_in, is_index_of_shape, is_index_shape, is_interval_shape, is_movable_shape}
use Rattle.gl_graph.proofs.Branch.{children_are, indexes_left, live, stays_left}
use Rattle.gl_graph.proofs.Distinct.{index_listed}
use Rattle.gl_graph.proofs.KindRules.{index_plain, plain_live}
use Rattle.gl_graph.proofs.Look.{all_filter}
use Rattle.gl_graph.proofs.RecordParents.{index_of_index}
use Rattle.gl_steps.proofs.ToldGrants.{any_filtered}
use Rattle.gl_rows.specs.Promises.{IsRow}
use Rattle.gl_rows.proofs.KeptIndexes.{KeepsIndexes, KeepsList, index_still, keeps_itself, same_parents}

-- a filter that each element passes
all_pass : (q p : NodeId → Bool) (xs : List NodeId) → list_all q xs ≡ true → ((x : NodeId) → q x ≡ true → p x ≡ true) → filter p xs ≡ xs
all_pass q p [] all each = refl
all_pass q p (x ∷ xs) all each =
    let t = and_both (q x) (list_all q xs) all in
    ap (λ b. if b then x ∷ filter p xs else filter p xs) (each x t.0) ∙ ap (λ ys. x ∷ ys) (all_pass q p xs t.1 each)

module _ (m : Graph) (law : IsLawfulGraph m) (n : NodeId) (movable : is_movable_shape (shape_of m n) ≡ true) (free : is_in_use m n ≡ false) where
  abbrev left : Graph
  left = without_branch m n

  no_interval : (o : Option Shape) → is_index_shape o ≡ true → is_interval_shape o ≡ false
  no_interval o h = search rules

  -- the intervals of another index
  pub others_stay : (f i : NodeId) (key : ℕ) → is_index_of_shape f (shape_of m i) ≡ true → same_node n i ≡ false → interval_of left i key ≡ interval_of m i key
  others_stay f i key h other =
      let on = plain_live m i (index_plain (shape_of m i) (index_of_index f (shape_of m i) h)) in
      let apart = not_true _ (λ c. clash (children_are m law n movable free i c).1 (no_interval (shape_of m i) (index_of_index f (shape_of m i) h))) in
      ap (λ o. slice_index_or (intervals_in (shape_in o)) (interval_place (bounds_in (shape_in o)) key) no_node)
      (stays_left m n (live m law n movable free) i on other apart)

  -- the node was no index of the file, so it is another than one of these
  pub other_index : (g : Graph) (f : NodeId) → is_index_of_shape f (shape_of g n) ≡ false → (i : NodeId) → is_index_of_shape f (shape_of g i) ≡ true
      → same_node n i ≡ false
  other_index g f none i h = not_true (same_node n i) (λ t. clash h (sym (ap (λ q. is_index_of_shape f (shape_of g q)) (same_node-equal n i t)) ∙ none))

  -- for a file that kept its indexes since g, if this node was none of them
  pub dropped_list : (g : Graph) (f : NodeId) → KeepsList g m f → is_index_of_shape f (shape_of g n) ≡ false → KeepsList g left f
  dropped_list g f kept none = (
    filter (λ i. not (same_node n i)) kept.0,
    indexes_left m law n movable free f ∙ ap (filter (λ i. not (same_node n i))) kept.1
        ∙ filter-append (λ i. not (same_node n i)) (indexes_of g f) kept.0
        ∙ ap (λ xs. xs ++ filter (λ i. not (same_node n i)) kept.0)
        (all_pass (λ i. is_index_of_shape f (shape_of g i)) (λ i. not (same_node n i)) (indexes_of g f)
        (all_filter (λ i. is_index_of_shape f (shape_of g i)) (nodes g)) (λ x h. ap not (other_index g f none x h))),
  )

  pub dropped_keeps : (g : Graph) (f : NodeId) → IsLawfulGraph g → KeepsIndexes g m f → is_index_of_shape f (shape_of g n) ≡ false → KeepsIndexes g left f
  dropped_keeps g f law' kept none = record {
    indexes = dropped_list g f kept.indexes none;
    intervals = λ i key h. others_stay f i key (index_still g m f law' kept i h) (other_index g f none i h) ∙ kept.intervals i key h;
  }

  -- whichever index is dropped
  pub dropped_parents : (f : NodeId) (keys : List ℕ) → IsRow m f keys → IsRow left f keys → record_parents left f keys ≡ record_parents m f keys
  dropped_parents f keys row row' =
      split (is_index_of_shape f (shape_of m n))
      (λ one.
      let there = any_filtered (same_node n) (same_node n) (indexes_of m f) (λ x h. h) (index_listed m law f n (live m law n movable free) one) in
      let both = length-filter_both (same_node n) (λ i. not (same_node n i)) (λ i. refl) (indexes_of m f) in
      let same : length (indexes_of left f) ≡ length (filter (λ i. not (same_node n i)) (indexes_of m f)) = ap length (indexes_left m law n movable free f) in
      let was = row.a_key_each in
      let is = row'.a_key_each in
      clash there (ap (list_any (same_node n)) (nil_from_length (filter (same_node n) (indexes_of m f)) (omega arith))))
      (λ none. same_parents m left f (dropped_keeps m f law (keeps_itself m f) none) keys row row')
