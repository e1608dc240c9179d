-- A transaction that holds an interval in X splits it, and holds the new interval in X too.
use Rattle.std.proofs.Common.{◌∙◌, ⊎_elim, ap, ap₂, arith, inl, inr, sym}
use Rattle.std.proofs.lemmas.Bool.Decides.{nat_tests}
use Rattle.std.specs.Prelude.{◌≡◌, ◌≢◌, ℕ, true, false, not, ◌&&◌, ◌==◌, if◌then◌else◌}
use Rattle.gl_modes.proofs.NodeLemmas.{same_node-equal, same_node-refl}
use Rattle.gl_modes.proofs.Words.{clash, other_number, same_number, split}
use Rattle.gl_modes.specs.Modes.{same_mode}
use Rattle.gl_modes.specs.Nodes.{same_node}
use Rattle.gl_modes.specs.declared.mode.Mode.{Mode}
use Rattle.gl_modes.specs.declared.mode.Mode.TheVariants.{NL, X}
use Rattle.gl_modes.specs.declared.node.NodeId.{NodeId}
use Rattle.gl_graph.specs.Graph.{Graph, is_live}
use Rattle.gl_model.proofs.law.Records.{nobody_holds}
use Rattle.gl_model.specs.Lawful.{effective, EffS, IsLawful, SameBelow}
use Rattle.gl_model.specs.State.{State, waits_for}
use Rattle.gl_model.proofs.splits.Carried.{carried_lawful, carried_steps, IsCarried}
use Rattle.gl_model.proofs.splits.Effects.{carried_below, carried_effective, moved_effective}
use Rattle.gl_model.proofs.splits.Excluded.{others_nothing, others_read, read_lives, x_is}
use Rattle.gl_model.proofs.splits.Recuts.{IsCut}
use Rattle.gl_model.specs.Splits.{split_by}

module _ (s : State) (law : IsLawful s) (t : ℕ) (i n : NodeId) (g' : Graph) (x : same_mode (s.held t i) X ≡ true) (cut : IsCut s.graph g' i n) where
  abbrev after : State
  after = split_by s t i g' n

  abbrev held : ℕ → NodeId → Mode
  held = after.held

  unheld : (u : ℕ) → s.held u n ≡ NL
  unheld u = nobody_holds s law u n (λ live. clash live cut.fresh)

  pub others_here : (u : ℕ) (q : NodeId) → same_node q n ≡ false → held u q ≡ s.held u q
  others_here u q e = grind (arith, nat_tests, u == t)

  moved : (u : ℕ) → held u n ≡ s.held u i
  moved u =
      split (u == t)
      (λ e. ap₂ (λ a b. if a && b then X else s.held u n) e (same_node-refl n) ∙ sym (ap (λ v. s.held v i) (same_number u t e) ∙ x_is (s.held t i) x))
      (λ e. ap (λ a. if a && same_node n n then X else s.held u n) e ∙ unheld u ∙ sym (others_nothing s law t u i x (other_number u t e)))

  stays : (q : NodeId) → is_live s.graph q ≡ true → is_live g' q ≡ true
  stays q live = ⊎_elim (λ e. e) (λ (e : q ≡ i). ap (is_live g') e ∙ cut.old) (cut.recuts.stays q live)

  pub split_carried : IsCarried s g' i n (λ q. same_node q i) held
  split_carried = record {
    cut = cut.recuts;
    left = λ u q live live'.
        split (same_node q n) (λ e. clash (ap (is_live s.graph) (sym (same_node-equal q n e)) ∙ live) cut.fresh) (λ e. others_here u q e);
    moved = moved;
    only = λ u q h.
        split (same_node q n) (λ e. inr (same_node-equal q n e)) (λ e.
        let live = (law.grants_live u q (sym (ap (λ m. not (same_mode m NL)) (others_here u q e)) ∙ h)).1 in inl (live, stays q live));
    stays = λ q live e. stays q live;
  }

  pub split_lawful : IsLawful after
  split_lawful = carried_lawful s law g' i n (λ q. same_node q i) held split_carried

  pub split_effects : (u : ℕ) (q : NodeId) → is_live s.graph q ≡ true → effective after u q ≡ effective s u q
  split_effects u q live = carried_effective s law g' i n (λ q. same_node q i) held split_carried u q live (stays q live)

  pub split_reads : (u : ℕ) → u ≢ t → (q : NodeId) → EffS s u q → SameBelow s.graph g' q
  split_reads u ne q reads =
      carried_below s law g' i n (λ q. same_node q i) held split_carried q (others_read s law t u i q x ne reads)
      (λ e. clash (ap (is_live s.graph) (sym e) ∙ read_lives s law u q reads) cut.fresh)

  -- on the new interval each has the effective mode that it has on the old one
  pub split_new : (u : ℕ) → effective after u n ≡ effective s u i
  split_new u = moved_effective s law g' i n (λ q. same_node q i) held split_carried u live_i
    where
      live_i : is_live s.graph i ≡ true
      live_i = (law.grants_live t i (ap (λ m. not (same_mode m NL)) (x_is (s.held t i) x))).1

  pub split_steps : (a b : ℕ) → waits_for after a b ≡ true → waits_for s a b ≡ true
  split_steps = carried_steps s law g' i n (λ q. same_node q i) held split_carried
