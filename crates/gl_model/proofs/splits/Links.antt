-- A split and a merge of intervals give graphs as the level of states needs them.
use Rattle.std.proofs.Common.{◌∙◌, ⊎_elim, arith, inl, inr, refl, subst, sym}
use Rattle.std.specs.Prelude.{◌≡◌, ◌+◌, ℕ, List, [], ◌∷◌, None}
use Rattle.gl_modes.proofs.Words.{not_true, split as by_cases}
use Rattle.gl_modes.specs.declared.node.NodeId.{NodeId}
use Rattle.gl_graph.proofs.Born.{old_below}
use Rattle.gl_graph.specs.Graph.{first_parent, Graph, is_live, parents_of, shape_of}
use Rattle.gl_graph.specs.Lawful.{IsLawfulGraph}
use Rattle.gl_graph.specs.Shapes.{is_record_shape}
use Rattle.gl_graph.proofs.MergeGraph.{can_merge, lived}
use Rattle.gl_graph.proofs.SplitGraph.{can_split, old_lives}
use Rattle.gl_model.proofs.splits.Turned.{GoesIn, merge_turned, split_turned, Turned, Turns}
use Rattle.gl_model.proofs.splits.Recuts.{AreRenamed, IsCut, IsJoined, Recuts}
use Rattle.gl_graph.specs.Splits.{IsSplit, merge, merge_refusal, next_interval, split_refusal}

module _ (g g' : Graph) (a b x : NodeId) (turned : Turned g g' a b x) where
  renamed : (ps ps' : List NodeId) → Turns (GoesIn g g' a b) ps ps' → AreRenamed a b ps ps'
  renamed [] [] r = tt
  renamed [] (p' ∷ ps') r = absurd r
  renamed (p ∷ ps) [] r = absurd r
  renamed (p ∷ ps) (p' ∷ ps') r = (⊎_elim (λ e. inl e.0) (λ e. inr e) r.0, renamed ps ps' r.1)

  alike : (ps : List NodeId) → AreRenamed a b ps ps
  alike [] = tt
  alike (p ∷ ps) = (inl refl, alike ps)

  pub recuts : Recuts g g' a b
  recuts = record {
    lawful = turned.law';
    stays = turned.left;
    came = turned.came;
    here = turned.b_live;
    old_plain = turned.a_plain;
    new_plain = turned.b_plain;
    above = subst (AreRenamed a b (parents_of g a)) (turned.above_a ∙ sym turned.above_b) (alike (parents_of g a));
    kinds = turned.kinds;
    keys = turned.keys;
    parents = λ q live live'.
        by_cases (is_record_shape (shape_of g q)) (λ rec. renamed (parents_of g q) (parents_of g' q) (turned.records q rec))
        (λ plain. subst (AreRenamed a b (parents_of g q)) (sym (turned.plain q live live' plain)) (alike (parents_of g q)));
  }

-- of a split that is not refused
pub split_cut : (g g' : Graph) (i n : NodeId) (bound : ℕ) → IsLawfulGraph g → split_refusal g i bound ≡ None → IsSplit g g' i n bound → IsCut g g' i n
split_cut g g' i n bound law unrefused is =
    let can = can_split g i bound unrefused in
    let turned = split_turned g law i bound can n.key is.key_free in
    let same : record { key = n.key; birth = g.births + 1 } ≡ n = λ j. record { key = n.key; birth = sym is.birth j } in
    subst (λ h. IsCut g h i n) (sym is.after) (subst (IsCut g _ i) same (record {
      recuts = recuts g _ i _ (first_parent g i) turned;
      old = old_lives g law i bound can n.key i turned.a_live;
      fresh = not_true (is_live g _) (λ live. let low = old_below g law [] _ live in absurd (omega arith));
    }))

-- of a merge that is not refused
pub merge_joined : (g : Graph) (i : NodeId) → IsLawfulGraph g → merge_refusal g i ≡ None → IsJoined g (merge g i) i (next_interval g i)
merge_joined g i law unrefused =
    let can = can_merge g i unrefused in
    record {
      recuts = recuts g (merge g i) (next_interval g i) i (first_parent g i) (merge_turned g law i can);
      gone = not_true (is_live (merge g i) (next_interval g i)) (λ live. (lived g law i can (next_interval g i) live).1 refl);
    }
