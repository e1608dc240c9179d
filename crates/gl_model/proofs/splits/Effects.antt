-- An interval y has the place of x in another graph: effective modes are as they were, and so are the records below what others read. For splits and merges.
use Rattle.std.proofs.Common.{◌∙◌, ⊎_elim, ap, arith, inl, inr, refl, subst, sym}
use Rattle.std.specs.Prelude.{◌≡◌, ◌≢◌, ℕ, Bool, true, false, if◌then◌else◌}
use Rattle.gl_modes.proofs.Words.{no}
use Rattle.gl_modes.specs.declared.mode.Mode.{Mode}
use Rattle.gl_modes.specs.declared.node.NodeId.{NodeId}
use Rattle.gl_graph.specs.Graph.{Graph, is_live, node_count, shape_of}
use Rattle.gl_graph.specs.Routes.{IsRoute}
use Rattle.gl_graph.specs.Shapes.{is_record_shape}
use Rattle.gl_model.proofs.law.Effects.{eff_s_route, eff_x_any, read_on_eff}
use Rattle.gl_model.specs.Lawful.{eff_s, eff_x, effective, IsLawful, SameBelow}
use Rattle.gl_model.specs.State.{State}
use Rattle.gl_model.specs.declared.answers.Effect.TheVariants as effect
use Rattle.gl_model.proofs.splits.Carried.{after, carried_lawful, IsCarried}
use Rattle.gl_model.proofs.splits.Renamed.{IsPair, pair_eff_s, pair_eff_x, pair_route, route_pair}

-- two tests of which each follows from the other
both_ways : (a b : Bool) → (a ≡ true → b ≡ true) → (b ≡ true → a ≡ true) → a ≡ b
both_ways true b f h = sym (f refl)
both_ways false true f h = h refl
both_ways false false f h = refl

-- a record lives
record_live : (g : Graph) (r : NodeId) → is_record_shape (shape_of g r) ≡ true → is_live g r ≡ true
record_live g r h = grind arith

module _ (s : State) (law : IsLawful s) (g' : Graph) (x y : NodeId) (goes : NodeId → Bool) (held : ℕ → NodeId → Mode)
    (carried : IsCarried s g' x y goes held) where
  abbrev now : State
  now = after s law g' x y goes held carried

  kept : IsLawful now
  kept = carried_lawful s law g' x y goes held carried

  abbrev Pair : NodeId → NodeId → Type 0
  Pair q q' = IsPair s.graph g' law.graph x y carried.cut q q'

  module _ (u : ℕ) (q q' : NodeId) (pair : Pair q q') (live : is_live s.graph q ≡ true) (live' : is_live g' q' ≡ true) where
    same_s : (k : ℕ) → eff_s k g' (held u) q' ≡ eff_s k s.graph (s.held u) q
    same_s k = pair_eff_s s.graph g' law.graph x y carried.cut (s.held u) (held u) (carried.left u) (carried.moved u) k q q' pair

    same_x : (k : ℕ) → eff_x k g' (held u) q' ≡ eff_x k s.graph (s.held u) q
    same_x k = pair_eff_x s.graph g' law.graph x y carried.cut (s.held u) (held u) (carried.left u) (carried.moved u) k q q' pair

    pair_x : eff_x (node_count g') g' (held u) q' ≡ eff_x (node_count s.graph) s.graph (s.held u) q
    pair_x =
        both_ways _ _ (λ h. eff_x_any s law u (node_count g') q live (sym (same_x (node_count g')) ∙ h))
        (λ h. eff_x_any now kept u (node_count s.graph) q' live' (same_x (node_count s.graph) ∙ h))

    pair_s : eff_s (node_count g') g' (held u) q' ≡ eff_s (node_count s.graph) s.graph (s.held u) q
    pair_s =
        both_ways _ _
        (λ h. read_on_eff s.graph law.graph (s.held u) q live
        (eff_s_route s.graph (s.held u) (node_count g') q (sym (same_s (node_count g')) ∙ h)))
        (λ h. read_on_eff g' kept.graph (held u) q' live' (eff_s_route g' (held u) (node_count s.graph) q' (same_s (node_count s.graph) ∙ h)))

    pair_effective : effective now u q' ≡ effective s u q
    pair_effective = λ i. if pair_x i then effect.X else (if pair_s i then effect.S else effect.None)

  -- effective modes are as they were
  pub carried_effective : (u : ℕ) (q : NodeId) → is_live s.graph q ≡ true → is_live g' q ≡ true → effective now u q ≡ effective s u q
  carried_effective u q live live' = pair_effective u q q (inl (refl, live, live')) live live'

  -- and on y as on x
  pub moved_effective : (u : ℕ) → is_live s.graph x ≡ true → effective now u y ≡ effective s u x
  moved_effective u live = pair_effective u x y (inr (refl, refl)) live carried.cut.here

  -- a record lives in both graphs
  record_stays : (r : NodeId) → is_record_shape (shape_of s.graph r) ≡ true → (is_live s.graph r ≡ true) × (is_live g' r ≡ true)
  record_stays r h =
      let live = record_live s.graph r h in (
        live,
        ⊎_elim (λ e. e) (λ (e : r ≡ x). absurd (no (sym carried.cut.old_plain ∙ sym (ap (λ z. is_record_shape (shape_of s.graph z)) e) ∙ h)))
            (carried.cut.stays r live),
      )

  record_was : (r : NodeId) → is_record_shape (shape_of g' r) ≡ true → (is_live s.graph r ≡ true) × (is_live g' r ≡ true)
  record_was r h =
      let live = record_live g' r h in (
        ⊎_elim (λ e. e) (λ (e : r ≡ y). absurd (no (sym carried.cut.new_plain ∙ sym (ap (λ z. is_record_shape (shape_of g' z)) e) ∙ h)))
            (carried.cut.came r live),
        live,
      )

  -- below a node that is neither x nor y all is as it was
  pub carried_below : (q : NodeId) → q ≢ x → q ≢ y → SameBelow s.graph g' q
  carried_below q nx ny = record {
    kept = λ r below.
        let lives = record_stays r below.is_record in
        let up = pair_route s.graph g' law.graph x y carried.cut r r q below.route.0 (inl (refl, lives.0, lives.1)) below.route.1 in (
          record {
            is_record = carried.cut.kinds r lives.0 lives.1 ∙ below.is_record;
            route = (up.1, subst (λ z. IsRoute g' r up.1 z) (down up.0 up.3) up.2);
          },
          carried.cut.keys r lives.0 lives.1,
        );
    no_more = λ r below.
        let lives = record_was r below.is_record in
        let up = route_pair s.graph g' law.graph x y carried.cut r r q below.route.0 (inl (refl, lives.0, lives.1)) below.route.1 in
        record {
          is_record = sym (carried.cut.kinds r lives.0 lives.1) ∙ below.is_record;
          route = (up.1, subst (λ z. IsRoute s.graph r up.1 z) (sym (back up.0 up.3)) up.2);
        };
  }
    where
      down : (q' : NodeId) → Pair q q' → q' ≡ q
      down q' pair = ⊎_elim (λ (a : (q' ≡ q) × (is_live s.graph q ≡ true) × (is_live g' q ≡ true)). a.0) (λ (b : (q ≡ x) × (q' ≡ y)). absurd (nx b.0)) pair

      back : (p : NodeId) → Pair p q → q ≡ p
      back p pair = ⊎_elim (λ (a : (q ≡ p) × (is_live s.graph p ≡ true) × (is_live g' p ≡ true)). a.0) (λ (b : (p ≡ x) × (q ≡ y)). absurd (ny b.1)) pair
