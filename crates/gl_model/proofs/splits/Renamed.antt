-- An interval y has the place of x in another graph, and each transaction holds on it what it held on x: rules, effective modes and routes.
use Rattle.std.proofs.Common.{◌∙◌, ⊎_elim, ap, ap₂, inl, inr, refl, subst, sym}
use Rattle.std.specs.List.{list_all, list_any}
use Rattle.std.specs.Prelude.{◌≡◌, ◌⊎◌, ⊤, ℕ, zero, suc, Bool, true, not, ◌&&◌, ◌||◌, cond, List, [], ◌∷◌}
use Rattle.gl_modes.proofs.NodeLemmas.{same_node-equal, same_node-refl}
use Rattle.gl_modes.proofs.Words.{no, or_elim, or_left, or_right}
use Rattle.gl_modes.specs.Modes.{is_at_least, same_mode}
use Rattle.gl_modes.specs.Nodes.{same_node}
use Rattle.gl_modes.specs.declared.mode.Mode.{Mode}
use Rattle.gl_modes.specs.declared.mode.Mode.TheVariants.{IS, IX, X}
use Rattle.gl_modes.specs.declared.node.NodeId.{NodeId}
use Rattle.gl_graph.specs.Graph.{Graph, is_live, parents_of}
use Rattle.gl_graph.specs.Lawful.{IsLawfulGraph}
use Rattle.gl_graph.specs.Routes.{IsRoute}
use Rattle.gl_model.specs.Lawful.{eff_s, eff_x, is_read}
use Rattle.gl_model.specs.State.{intends_over, is_write, no_parents}
use Rattle.gl_model.proofs.splits.Recuts.{AreRenamed, Recuts}

module _ (g g' : Graph) (law : IsLawfulGraph g) (x y : NodeId) (cut : Recuts g g' x y) where
  -- one node of both graphs, or x and y
  abbrev pub IsPair : NodeId → NodeId → Type 0
  IsPair q q' = ((q' ≡ q) × (is_live g q ≡ true) × (is_live g' q ≡ true)) ⊎ ((q ≡ x) × (q' ≡ y))

  -- pairs, place by place
  abbrev pub ArePairs : List NodeId → List NodeId → Type 0
  ArePairs [] [] = ⊤
  ArePairs (p ∷ ps) (p' ∷ ps') = IsPair p p' × ArePairs ps ps'
  ArePairs ps ps' = ⊥

  -- what lives, renamed, is in pairs
  pairs : (ps ps' : List NodeId) → AreRenamed x y ps ps' → ((p : NodeId) → list_any (same_node p) ps ≡ true → is_live g p ≡ true)
      → ((p : NodeId) → list_any (same_node p) ps' ≡ true → is_live g' p ≡ true) → ArePairs ps ps'
  pairs [] [] r live live' = tt
  pairs [] (p' ∷ ps') r live live' = absurd r
  pairs (p ∷ ps) [] r live live' = absurd r
  pairs (p ∷ ps) (p' ∷ ps') r live live' = (
    ⊎_elim
        (λ e.
        let there = live' p' (or_left (same_node p' p') _ (same_node-refl p')) in
        inl (e, live p (or_left (same_node p p) _ (same_node-refl p)), subst (λ z. is_live g' z ≡ true) e there))
        inr r.0,
    pairs ps ps' r.1 (λ q h. live q (or_right (same_node q p) _ h)) (λ q h. live' q (or_right (same_node q p') _ h)),
  )

  -- the parents of a pair are pairs
  pub pair_parents : (q q' : NodeId) → IsPair q q' → ArePairs (parents_of g q) (parents_of g' q')
  pair_parents q q' pair =
      pairs (parents_of g q) (parents_of g' q') (renamed pair) (λ p h. law.parents_live q p h) (λ p h. cut.lawful.parents_live q' p h)
    where
      renamed : IsPair q q' → AreRenamed x y (parents_of g q) (parents_of g' q')
      renamed p =
          ⊎_elim (λ (a : (q' ≡ q) × (is_live g q ≡ true) × (is_live g' q ≡ true)).
          subst (λ z. AreRenamed x y (parents_of g q) (parents_of g' z)) (sym a.0) (cut.parents q a.1 a.2))
          (λ (b : (q ≡ x) × (q' ≡ y)).
          subst (λ z. AreRenamed x y (parents_of g z) (parents_of g' q')) (sym b.0)
          (subst (λ z. AreRenamed x y (parents_of g x) (parents_of g' z)) (sym b.1) cut.above)) p

  -- tests that agree on pairs
  any_pairs : (f f' : NodeId → Bool) → ((p p' : NodeId) → IsPair p p' → f' p' ≡ f p) → (ps ps' : List NodeId) → ArePairs ps ps'
      → list_any f' ps' ≡ list_any f ps
  any_pairs f f' same [] [] r = refl
  any_pairs f f' same [] (p' ∷ ps') r = absurd r
  any_pairs f f' same (p ∷ ps) [] r = absurd r
  any_pairs f f' same (p ∷ ps) (p' ∷ ps') r = ap₂ (λ a b. a || b) (same p p' r.0) (any_pairs f f' same ps ps' r.1)

  all_pairs : (f f' : NodeId → Bool) → ((p p' : NodeId) → IsPair p p' → f' p' ≡ f p) → (ps ps' : List NodeId) → ArePairs ps ps'
      → list_all f' ps' ≡ list_all f ps
  all_pairs f f' same [] [] r = refl
  all_pairs f f' same [] (p' ∷ ps') r = absurd r
  all_pairs f f' same (p ∷ ps) [] r = absurd r
  all_pairs f f' same (p ∷ ps) (p' ∷ ps') r = ap₂ (λ a b. a && b) (same p p' r.0) (all_pairs f f' same ps ps' r.1)

  no_pairs : (ps ps' : List NodeId) → ArePairs ps ps' → no_parents ps' ≡ no_parents ps
  no_pairs [] [] r = refl
  no_pairs [] (p' ∷ ps') r = absurd r
  no_pairs (p ∷ ps) [] r = absurd r
  no_pairs (p ∷ ps) (p' ∷ ps') r = refl

  -- of pairs the one is held as the other was
  module _ (h h' : NodeId → Mode) (left : (q : NodeId) → is_live g q ≡ true → is_live g' q ≡ true → h' q ≡ h q) (moved : h' y ≡ h x) where
    pub pair_held : (q q' : NodeId) → IsPair q q' → h' q' ≡ h q
    pair_held q q' pair =
        ⊎_elim (λ (a : (q' ≡ q) × (is_live g q ≡ true) × (is_live g' q ≡ true)). ap h' a.0 ∙ left q a.1 a.2)
        (λ (b : (q ≡ x) × (q' ≡ y)). ap h' b.1 ∙ moved ∙ ap h (sym b.0)) pair

    -- so the rule of the graph is met as before
    pub pair_intends : (q q' : NodeId) (m : Mode) → IsPair q q' → intends_over h' (parents_of g' q') m ≡ intends_over h (parents_of g q) m
    pair_intends q q' m pair =
        let ps = pair_parents q q' pair in
        λ i. cond (is_write m)
        (all_pairs (λ p. is_at_least (h p) IX) (λ p. is_at_least (h' p) IX) (λ p p' r. ap (λ a. is_at_least a IX) (pair_held p p' r)) (parents_of g q)
        (parents_of g' q') ps i)
        (no_pairs (parents_of g q) (parents_of g' q') ps i
        || any_pairs (λ p. is_at_least (h p) IS) (λ p. is_at_least (h' p) IS) (λ p p' r. ap (λ a. is_at_least a IS) (pair_held p p' r)) (parents_of g q)
        (parents_of g' q') ps i)

    -- and effective modes are as before
    pub pair_eff_s : (k : ℕ) (q q' : NodeId) → IsPair q q' → eff_s k g' h' q' ≡ eff_s k g h q
    pair_eff_s zero q q' pair = ap is_read (pair_held q q' pair)
    pair_eff_s (suc k) q q' pair =
        ap₂ (λ a b. a || b) (ap is_read (pair_held q q' pair))
        (any_pairs (eff_s k g h) (eff_s k g' h') (pair_eff_s k) (parents_of g q) (parents_of g' q') (pair_parents q q' pair))

    pub pair_eff_x : (k : ℕ) (q q' : NodeId) → IsPair q q' → eff_x k g' h' q' ≡ eff_x k g h q
    pair_eff_x zero q q' pair = ap (λ m. same_mode m X) (pair_held q q' pair)
    pair_eff_x (suc k) q q' pair =
        let ps = pair_parents q q' pair in
        ap₂ (λ a b. a || b) (ap (λ m. same_mode m X) (pair_held q q' pair))
        (ap₂ (λ a b. not a && b) (no_pairs (parents_of g q) (parents_of g' q') ps)
        (all_pairs (eff_x k g h) (eff_x k g' h') (pair_eff_x k) (parents_of g q) (parents_of g' q') ps))

  -- a node among the one list is in a pair with one among the other
  pair_of : (p : NodeId) (ps ps' : List NodeId) → ArePairs ps ps' → list_any (same_node p) ps ≡ true
      → (p' : NodeId) × (list_any (same_node p') ps' ≡ true) × IsPair p p'
  pair_of p [] ps' r h = absurd (no h)
  pair_of p (q ∷ ps) [] r h = absurd r
  pair_of p (q ∷ ps) (q' ∷ ps') r h =
      or_elim (same_node p q) (list_any (same_node p) ps) h
      (λ e. (q', or_left (same_node q' q') _ (same_node-refl q'), subst (λ z. IsPair z q') (sym (same_node-equal p q e)) r.0))
      (λ e. let f = pair_of p ps ps' r.1 e in (f.0, or_right (same_node f.0 q') _ f.1, f.2))

  pair_from : (p' : NodeId) (ps ps' : List NodeId) → ArePairs ps ps' → list_any (same_node p') ps' ≡ true
      → (p : NodeId) × (list_any (same_node p) ps ≡ true) × IsPair p p'
  pair_from p' ps [] r h = absurd (no h)
  pair_from p' [] (q' ∷ ps') r h = absurd r
  pair_from p' (q ∷ ps) (q' ∷ ps') r h =
      or_elim (same_node p' q') (list_any (same_node p') ps') h
      (λ e. (q, or_left (same_node q q) _ (same_node-refl q), subst (IsPair q) (sym (same_node-equal p' q' e)) r.0))
      (λ e. let f = pair_from p' ps ps' r.1 e in (f.0, or_right (same_node f.0 q) _ f.1, f.2))

  -- routes from the one lead where routes from the other do
  pub pair_route : (q q' m : NodeId) (walk : List NodeId) → IsPair q q' → IsRoute g q walk m
      → (m' : NodeId) × (walk' : List NodeId) × IsRoute g' q' walk' m' × IsPair m m'
  pair_route q q' m [] pair route = (q', [], refl, subst (λ z. IsPair z q') route pair)
  pair_route q q' m (p ∷ walk) pair route =
      let up = pair_of p (parents_of g q) (parents_of g' q') (pair_parents q q' pair) route.0 in
      let rest = pair_route p up.0 m walk up.2 route.1 in
      (rest.0, up.0 ∷ rest.1, (up.1, rest.2), rest.3)

  pub route_pair : (q q' m' : NodeId) (walk' : List NodeId) → IsPair q q' → IsRoute g' q' walk' m'
      → (m : NodeId) × (walk : List NodeId) × IsRoute g q walk m × IsPair m m'
  route_pair q q' m' [] pair route = (q, [], refl, subst (IsPair q) route pair)
  route_pair q q' m' (p' ∷ walk) pair route =
      let up = pair_from p' (parents_of g q) (parents_of g' q') (pair_parents q q' pair) route.0 in
      let rest = route_pair up.0 p' m' walk up.2 route.1 in
      (rest.0, up.0 ∷ rest.1, (up.1, rest.2), rest.3)
