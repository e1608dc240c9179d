-- In a graph of well-formed nodes each parent lives and is of a higher kind, except inner nodes: so a cycle is one of inner nodes.
use Rattle.std.proofs.Common.{◌∙◌, ⊎_elim, ap, arith, inl, inr, refl, subst, sym}
use Rattle.std.proofs.lemmas.List.Folds.{list_any_at}
use Rattle.std.proofs.lemmas.List.Sums.{count_by-le-length}
use Rattle.std.specs.List.{list_all, list_any}
use Rattle.std.specs.Prelude.{◌≡◌, ◌⊎◌, ◌<◌, ◌≤◌, ℕ, true, false, List, [], ◌∷◌, length, Option, Some, None, slice_index_or}
use Rattle.gl_modes.proofs.NodeLemmas.{same_node-equal, same_node-refl}
use Rattle.gl_modes.proofs.Words.{and_both, no, or_elim}
use Rattle.gl_modes.specs.Nodes.{same_node}
use Rattle.gl_modes.specs.declared.node.NodeId.{NodeId}
use Rattle.gl_graph.proofs.KindRules.{file_plain, index_of, index_plain, inner_plain, is_plain, plain_live}
use Rattle.gl_graph.proofs.Look.{all_at, all_filter, child_node, shaped_node}
use Rattle.gl_graph.specs.Graph.{Graph, indexes_of, interval_of, interval_place, intervals_of, is_child, is_live, no_node, Node, node_at, nodes}
use Rattle.gl_graph.specs.Graph.{shape_in, shape_of}
use Rattle.gl_graph.specs.Lawful.{HasShape, IsIndexNode, IsWellFormed}
use Rattle.gl_graph.specs.Routes.{IsAcyclic, IsRoute}
use Rattle.gl_graph.specs.Shapes.{bounds_in, File, Index, Inner, Interval, intervals_in}
use Rattle.gl_graph.specs.Shapes.{is_file_shape, is_index_of_shape, is_index_shape, is_inner_shape, is_interval_shape, Rec, Shape}

-- how high the kinds are
abbrev pub rank : Option Shape → ℕ
rank (Some Interval) = 1
rank (Some (File adopted)) = 2
rank (Some (Index file bounds intervals)) = 2
rank (Some Inner) = 3
rank o = 0

inner_rank : (o : Option Shape) → is_inner_shape o ≡ true → rank o ≡ 3
inner_rank (Some Inner) h = refl
inner_rank _ h = absurd (no h)

file_rank : (o : Option Shape) → is_file_shape o ≡ true → rank o ≡ 2
file_rank (Some (File adopted)) h = refl
file_rank _ h = absurd (no h)

index_rank : (o : Option Shape) → is_index_shape o ≡ true → rank o ≡ 2
index_rank (Some (Index file bounds intervals)) h = refl
index_rank _ h = absurd (no h)

interval_rank : (o : Option Shape) → is_interval_shape o ≡ true → rank o ≡ 1
interval_rank (Some Interval) h = refl
interval_rank _ h = absurd (no h)

interval_plain : (o : Option Shape) → is_interval_shape o ≡ true → is_plain o ≡ true
interval_plain (Some Interval) h = refl
interval_plain _ h = absurd (no h)

-- the parent lives; it is of a higher kind, or both are inner nodes
pub record Rises (g : Graph) (p q : NodeId) : Type 0 where
  pub live : is_live g p ≡ true
  pub up : (rank (shape_of g q) < rank (shape_of g p)) ⊎ ((is_inner_shape (shape_of g q) ≡ true) × (is_inner_shape (shape_of g p) ≡ true))

module _ (g : Graph) (well : (q : NodeId) (node : Node) → node_at g q ≡ Some node → IsWellFormed g q node) where
  -- the interval of a key is one of the index
  pub interval_well : (h y : NodeId) (key : ℕ) → is_index_of_shape h (shape_of g y) ≡ true → is_interval_shape (shape_of g (interval_of g y key)) ≡ true
  interval_well h y key is =
      let i = index_of h (shape_of g y) is in
      let there = shaped_node g y (Index i.0 i.1 i.2) i.3 in
      let node : IsIndexNode g y i.0 i.1 i.2 = (subst (λ sh. HasShape g y sh there.0.parents) there.2 (well y there.0 there.1)).1 in
      let count = node.count in
      let low : interval_place i.1 key ≤ length i.1 = grind (arith, count_by-le-length) in
      let at : interval_of g y key ≡ slice_index_or i.2 (interval_place i.1 key) no_node = ap
      (λ o. slice_index_or (intervals_in o) (interval_place (bounds_in o) key) no_node) i.3 in
      let listed = list_any_at (same_node (slice_index_or i.2 (interval_place i.1 key) no_node)) i.2 (interval_place i.1 key) no_node (omega arith)
      (same_node-refl (slice_index_or i.2 (interval_place i.1 key) no_node)) in
      ap (λ q. is_interval_shape (shape_of g q)) at
      ∙ ap (λ o. is_interval_shape (shape_in o)) (node.intervals (slice_index_or i.2 (interval_place i.1 key) no_node) listed)

  among_well : (h p : NodeId) (is : List NodeId) (keys : List ℕ) → list_all (λ i. is_index_of_shape h (shape_of g i)) is ≡ true
      → list_any (same_node p) (intervals_of g is keys) ≡ true → is_interval_shape (shape_of g p) ≡ true
  among_well h p [] keys all l = absurd (no l)
  among_well h p (i ∷ is) [] all l = absurd (no l)
  among_well h p (i ∷ is) (key ∷ keys) all l =
      let t = and_both (is_index_of_shape h (shape_of g i)) (list_all (λ j. is_index_of_shape h (shape_of g j)) is) all in
      or_elim (same_node p (interval_of g i key)) (list_any (same_node p) (intervals_of g is keys)) l
      (λ here. ap (λ q. is_interval_shape (shape_of g q)) (same_node-equal p (interval_of g i key) here) ∙ interval_well h i key t.0)
      (λ there. among_well h p is keys t.1 there)

  rises_by : (q p : NodeId) (sh : Shape) (ps : List NodeId) → HasShape g q sh ps → shape_of g q ≡ Some sh → list_any (same_node p) ps ≡ true → Rises g p q
  rises_by q p Inner ps h e l =
      let inner = all_at (λ y. is_inner_shape (shape_of g y)) ps p l h.inner in
      record { live = plain_live g p (inner_plain (shape_of g p) inner); up = inr (ap is_inner_shape e, inner) }
  rises_by q p (File adopted) ps h e l =
      let inner = all_at (λ y. is_inner_shape (shape_of g y)) ps p l h.inner in
      let high = inner_rank (shape_of g p) inner in
      let low : rank (shape_of g q) ≡ 2 = ap rank e in
      record { live = plain_live g p (inner_plain (shape_of g p) inner); up = inl (omega arith) }
  rises_by q p (Index file bs is) ps h e l =
      let inner = all_at (λ y. is_inner_shape (shape_of g y)) ps p l h.0.inner in
      let high = inner_rank (shape_of g p) inner in
      let low : rank (shape_of g q) ≡ 2 = ap rank e in
      record { live = plain_live g p (inner_plain (shape_of g p) inner); up = inl (omega arith) }
  rises_by q p Interval ps h e l =
      or_elim (same_node p h.0) false (sym (ap (list_any (same_node p)) h.1) ∙ l)
      (λ here.
      let index : is_index_shape (shape_of g p) ≡ true = ap (λ y. is_index_shape (shape_of g y)) (same_node-equal p h.0 here) ∙ h.2 in
      let high = index_rank (shape_of g p) index in
      let low : rank (shape_of g q) ≡ 1 = ap rank e in
      record { live = plain_live g p (index_plain (shape_of g p) index); up = inl (omega arith) })
      (λ none. absurd (no none))
  rises_by q p (Rec keys) ps h e l =
      let low : rank (shape_of g q) ≡ 0 = ap rank e in
      or_elim (same_node p h.0) (list_any (same_node p) (intervals_of g (indexes_of g h.0) keys)) (sym (ap (list_any (same_node p)) h.1.parents) ∙ l)
      (λ here.
      let file : is_file_shape (shape_of g p) ≡ true = ap (λ y. is_file_shape (shape_of g y)) (same_node-equal p h.0 here) ∙ h.1.file_is in
      let high = file_rank (shape_of g p) file in
      record { live = plain_live g p (file_plain (shape_of g p) file); up = inl (omega arith) })
      (λ there.
      let interval = among_well h.0 p (indexes_of g h.0) keys (all_filter (λ i. is_index_of_shape h.0 (shape_of g i)) (nodes g)) there in
      let high = interval_rank (shape_of g p) interval in
      record { live = plain_live g p (interval_plain (shape_of g p) interval); up = inl (omega arith) })

  pub rises : (q p : NodeId) → is_child g p q ≡ true → Rises g p q
  rises q p c = let n = child_node g q p c in rises_by q p n.0.shape n.0.parents (well q n.0 n.1) (ap shape_in n.1) n.2

  -- no route leads down
  not_down : (a b : NodeId) (path : List NodeId) → IsRoute g a path b → rank (shape_of g a) ≤ rank (shape_of g b)
  not_down a b [] r = let same : rank (shape_of g a) ≡ rank (shape_of g b) = ap (λ y. rank (shape_of g y)) r in omega arith
  not_down a b (p ∷ path) r =
      let rest = not_down p b path r.1 in
      ⊎_elim (λ (less : rank (shape_of g a) < rank (shape_of g p)). omega arith)
      (λ (inner : (is_inner_shape (shape_of g a) ≡ true) × (is_inner_shape (shape_of g p) ≡ true)).
      let x = inner_rank (shape_of g a) inner.0 in let y = inner_rank (shape_of g p) inner.1 in omega arith)
      (rises a p r.0).up

  module _ (old : Graph) (old_child : (q p : NodeId) → is_inner_shape (shape_of g q) ≡ true → is_child g p q ≡ true → is_child old p q ≡ true) where
    -- a route from an inner node is an old one
    inner_route : (a b : NodeId) (path : List NodeId) → is_inner_shape (shape_of g a) ≡ true → IsRoute g a path b → IsRoute old a path b
    inner_route a b [] inner r = r
    inner_route a b (p ∷ path) inner r =
        let high = inner_rank (shape_of g a) inner in
        ⊎_elim (λ (less : rank (shape_of g a) < rank (shape_of g p)). absurd (top (shape_of g p) (omega arith)))
        (λ (both : (is_inner_shape (shape_of g a) ≡ true) × (is_inner_shape (shape_of g p) ≡ true)).
        (old_child a p inner r.0, inner_route p b path both.1 r.1)) (rises a p r.0).up
      where
        top : (o : Option Shape) → 3 < rank o → ⊥
        top None h = omega arith
        top (Some Inner) h = omega arith
        top (Some Interval) h = omega arith
        top (Some (File adopted)) h = omega arith
        top (Some (Index file bounds intervals)) h = omega arith
        top (Some (Rec keys)) h = omega arith

    -- without a cycle of inner nodes there is none
    pub acyclic_by_kinds : IsAcyclic old → IsAcyclic g
    acyclic_by_kinds a n p path r =
        let back = not_down p n path r.1 in
        ⊎_elim (λ (less : rank (shape_of g n) < rank (shape_of g p)). absurd (omega arith))
        (λ (both : (is_inner_shape (shape_of g n) ≡ true) × (is_inner_shape (shape_of g p) ≡ true)).
        a n p path (inner_route n n (p ∷ path) both.0 r)) (rises n p r.0).up
