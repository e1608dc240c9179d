-- A transaction that holds two neighbours in X merges them.
use Rattle.std.proofs.Common.{◌∙◌, ⊎_elim, ap, arith, inl, sym}
use Rattle.std.proofs.lemmas.Bool.Decides.{nat_tests}
use Rattle.std.specs.Prelude.{◌≡◌, ◌≢◌, ℕ, true, false, not, ◌==◌, if◌then◌else◌}
use Rattle.gl_modes.proofs.NodeLemmas.{same_node-equal, same_node-from_equal}
use Rattle.gl_modes.proofs.Words.{clash, not_true, other_number, same_number, split}
use Rattle.gl_modes.specs.Modes.{same_mode}
use Rattle.gl_modes.specs.Nodes.{same_node}
use Rattle.gl_modes.specs.declared.mode.Mode.{Mode}
use Rattle.gl_modes.specs.declared.mode.Mode.TheVariants.{NL, X}
use Rattle.gl_modes.specs.declared.node.NodeId.{NodeId}
use Rattle.gl_graph.specs.Graph.{Graph, is_live}
use Rattle.gl_model.specs.Lawful.{effective, EffS, IsLawful, SameBelow}
use Rattle.gl_model.specs.State.{State, waits_for}
use Rattle.gl_model.proofs.splits.Carried.{carried_lawful, carried_steps, IsCarried}
use Rattle.gl_model.proofs.splits.Effects.{carried_below, carried_effective}
use Rattle.gl_model.proofs.splits.Excluded.{others_nothing, others_read, x_is}
use Rattle.gl_model.proofs.splits.Recuts.{IsJoined}
use Rattle.gl_model.specs.Splits.{merged_by}

module _ (s : State) (law : IsLawful s) (t : ℕ) (i j : NodeId) (g' : Graph) (x : same_mode (s.held t i) X ≡ true) (y : same_mode (s.held t j) X ≡ true)
    (joined : IsJoined s.graph g' i j) where
  abbrev after : State
  after = merged_by s j g'

  abbrev held : ℕ → NodeId → Mode
  held = after.held

  others_here : (u : ℕ) (q : NodeId) → same_node q j ≡ false → held u q ≡ s.held u q
  others_here u q e = ap (λ b. if b then NL else s.held u q) e

  -- a node of the graph after it is not j
  other : (q : NodeId) → is_live g' q ≡ true → same_node q j ≡ false
  other q live = not_true (same_node q j) (λ e. clash (ap (is_live g') (sym (same_node-equal q j e)) ∙ live) joined.gone)

  stays : (q : NodeId) → is_live s.graph q ≡ true → same_node q j ≡ false → is_live g' q ≡ true
  stays q live e = ⊎_elim (λ e. e) (λ (same : q ≡ j). clash (same_node-from_equal q j same) e) (joined.recuts.stays q live)

  moved : (u : ℕ) → held u i ≡ s.held u j
  moved u =
      others_here u i (other i joined.recuts.here) ∙ split (u == t)
      (λ e. ap (λ v. s.held v i) (same_number u t e) ∙ x_is (s.held t i) x ∙ sym (ap (λ v. s.held v j) (same_number u t e) ∙ x_is (s.held t j) y))
      (λ e. others_nothing s law t u i x (other_number u t e) ∙ sym (others_nothing s law t u j y (other_number u t e)))

  pub merge_carried : IsCarried s g' j i (λ q. same_node q j) held
  merge_carried = record {
    cut = joined.recuts;
    left = λ u q live live'. others_here u q (other q live');
    moved = moved;
    only = λ u q h.
        let was = lost u q h in let live = (law.grants_live u q was.1).1 in inl (live, stays q live was.0);
    stays = stays;
  }
    where
      lost : (u : ℕ) (q : NodeId) → not (same_mode (held u q) NL) ≡ true → (same_node q j ≡ false) × (not (same_mode (s.held u q) NL) ≡ true)
      lost u q h = grind (arith, nat_tests, same_node q j)

  pub merge_lawful : IsLawful after
  merge_lawful = carried_lawful s law g' j i (λ q. same_node q j) held merge_carried

  pub merge_effects : (u : ℕ) (q : NodeId) → is_live g' q ≡ true → effective after u q ≡ effective s u q
  merge_effects u q live = carried_effective s law g' j i (λ q. same_node q j) held merge_carried u q was live
    where
      live_i : is_live s.graph i ≡ true
      live_i = (law.grants_live t i (ap (λ m. not (same_mode m NL)) (x_is (s.held t i) x))).1

      was : is_live s.graph q ≡ true
      was = ⊎_elim (λ e. e) (λ (e : q ≡ i). ap (is_live s.graph) e ∙ live_i) (joined.recuts.came q live)

  pub merge_reads : (u : ℕ) → u ≢ t → (q : NodeId) → EffS s u q → SameBelow s.graph g' q
  merge_reads u ne q reads =
      carried_below s law g' j i (λ q. same_node q j) held merge_carried q (others_read s law t u j q y ne reads) (others_read s law t u i q x ne reads)

  pub merge_steps : (a b : ℕ) → waits_for after a b ≡ true → waits_for s a b ≡ true
  merge_steps = carried_steps s law g' j i (λ q. same_node q j) held merge_carried
