-- Rows are adopted and forgotten: each step keeps a transaction, whose effective modes on the nodes that live on stay.
use Rattle.gl_steps.proofs.Words.{[], ◌∙◌, ◌∷◌, ◌≡◌, ◌≤◌, accepted_once, ap, arith, born_node, effective, Graph, inl, is_at_least_effect, is_live}
use Rattle.gl_steps.proofs.Words.{is_record_shape, is_some, IsLawful, List, live_by, lives, NodeId, record_parents, shape_of, State, subst, sym, Told, true}
use Rattle.gl_steps.proofs.Words.{true≢false, TxnId, was_live, with_graph, without_node, ℕ}
use Rattle.gl_graph.proofs.Marked.{marked_live}
use Rattle.gl_model.proofs.law.Rows.{effective_left, forgotten_leaves, LeavesParents, row_leaves}
use Rattle.gl_steps.proofs.GraphChanges.{born_nodes_at, born_nodes_births}
use Rattle.gl_steps.proofs.GraphCommands.{new_record}
use Rattle.gl_steps.proofs.Keeps.{effect_refl, Keeps}
use Rattle.gl_steps.proofs.KeptKinds.{forgotten_kinds, KeepsKinds, row_kinds}
use Rattle.gl_steps.proofs.Made.{adopted}

module _ (s : State) (law : IsLawful s) (t : TxnId) (alive : lives s t ≡ true) (next : State) (law' : IsLawful (accepted_once next)) (told' : Told) where
  abbrev Kept : Type 0
  Kept = Keeps s (accepted_once next) t told' true

  -- another graph, in which what lives on keeps its parents
  leaving_keeps : (g : Graph) → next ≡ with_graph s g → LeavesParents s.graph g → KeepsKinds s.graph g → s.graph.births ≤ g.births
      → ((n : NodeId) → n.birth ≤ s.graph.births → is_live g n ≡ true → is_live s.graph n ≡ true) → Kept
  leaving_keeps g is leaves kinds births old =
      record {
        alive = ap (λ (x : State). live_by t.age (x.txns t.slot)) is ∙ alive;
        grants = inl (λ q. ap (λ (x : State). x.held t.slot q) is);
        births = subst (λ (x : State). s.graph.births ≤ x.graph.births) (sym is) births;
        old = λ n le live. old n le (ap (λ (x : State). is_live x.graph n) (sym is) ∙ live);
        kinds = subst (λ (x : State). KeepsKinds s.graph x.graph) (sym is) kinds;
        same = λ _ n a b. same n a b;
        greater = λ n a b. ap (λ e. is_at_least_effect e (effective s t.slot n)) (same n a b) ∙ effect_refl (effective s t.slot n);
        below = λ plain. absurd (true≢false plain);
      }
    where
      same : (n : NodeId) → is_live s.graph n ≡ true → is_live next.graph n ≡ true → effective (accepted_once next) t.slot n ≡ effective s t.slot n
      same = effective_left s (accepted_once next) t.slot law law' (subst (λ (x : State). LeavesParents s.graph x.graph) (sym is) leaves)
          (ap (λ (x : State). x.held t.slot) is)

  pub adopt_keeps : (key : ℕ) (f : NodeId) (keys : List ℕ) → next ≡ adopted s key f keys → Kept
  adopt_keeps key f keys is =
      leaving_keeps _ is (row_leaves s.graph law.graph f (new_record key keys (record_parents s.graph f keys)))
      (row_kinds s.graph law.graph f (new_record key keys (record_parents s.graph f keys)))
      (born_nodes_births s.graph (new_record key keys (record_parents s.graph f keys) ∷ []))
      (λ n le live. ap is_some (sym (born_nodes_at s.graph (new_record key keys (record_parents s.graph f keys) ∷ []) n le))
      ∙ (sym (marked_live (born_node s.graph (new_record key keys (record_parents s.graph f keys))) f n) ∙ live))

  pub forget_keeps : (r : NodeId) → is_record_shape (shape_of s.graph r) ≡ true → next ≡ with_graph s (without_node s.graph r) → Kept
  forget_keeps r rec is =
      leaving_keeps (without_node s.graph r) is (forgotten_leaves s.graph law.graph r rec) (forgotten_kinds s.graph law.graph r rec) (omega arith)
      (λ n le live. was_live s.graph law.graph r rec n live)
