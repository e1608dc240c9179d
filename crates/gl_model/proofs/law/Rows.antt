-- Records without locks are added and removed, and all others keep their parents: effective modes stay. For rows that are adopted and forgotten.
use Rattle.gl_model.proofs.Words.{◌&&◌, [], ◌||◌, ◌∙◌, ◌∷◌, ◌≡◌, ap, ap₂, arith, clash, eff_s, eff_x, effective, false, Graph, if◌then◌else◌, is_idle, is_live}
use Rattle.gl_model.proofs.Words.{is_read, is_record_shape, is_some, IsLawful, IsLawfulGraph, keys_in, list_all, list_any, live_node, marked, marked_live}
use Rattle.gl_model.proofs.Words.{marked_parents, marked_record, Mode, nat_tests, no_parents, Node, node_at, node_count, NodeId, not, old_same, parent_plain}
use Rattle.gl_model.proofs.Words.{parents_in, parents_of, refl, same_mode, same_node, same_node-equal, shape_in, shape_of, Some, State, suc, sym, true}
use Rattle.gl_model.proofs.Words.{was_there, without_node, X, zero, ℕ}
use Rattle.gl_graph.proofs.Born.{old_or_new, place_in}
use Rattle.gl_graph.proofs.Marked.{marked_keys}
use Rattle.gl_graph.proofs.Removed.{plain_stays}
use Rattle.gl_graph.specs.Changes.{born_node}
use Rattle.gl_model.specs.declared.answers.Effect.TheVariants as effect
use Rattle.gl_model.proofs.law.Effects.{eff_s_route, eff_x_any, read_on_eff}
use Rattle.gl_model.proofs.law.Searches.{same_bool}
use Rattle.gl_model.proofs.law.Records.{free-idle, no_queue, nobody_holds}
use Rattle.gl_model.proofs.law.Keeps.{all_same, any_same}

-- If nodes keep their parents, which live on, the effective modes on nodes that live on stay.

-- each node that lives on has the parents that it had, and each parent lives on
pub record LeavesParents (g g' : Graph) : Type 0 where
  pub parents : (n : NodeId) → is_live g n ≡ true → is_live g' n ≡ true → parents_of g' n ≡ parents_of g n
  pub stand : (n p : NodeId) → list_any (same_node p) (parents_of g n) ≡ true → (is_live g p ≡ true) × (is_live g' p ≡ true)

module _ (g g' : Graph) (h : NodeId → Mode) (leaves : LeavesParents g g') where
  s_left : (k : ℕ) (n : NodeId) → is_live g n ≡ true → is_live g' n ≡ true → eff_s k g' h n ≡ eff_s k g h n
  s_left zero n live live' = refl
  s_left (suc k) n live live' =
      ap (λ b. is_read (h n) || b) (ap (list_any (eff_s k g' h)) (leaves.parents n live live')
      ∙ any_same (eff_s k g' h) (eff_s k g h) (parents_of g n) (λ p up. let there = leaves.stand n p up in s_left k p there.0 there.1))

  x_left : (k : ℕ) (n : NodeId) → is_live g n ≡ true → is_live g' n ≡ true → eff_x k g' h n ≡ eff_x k g h n
  x_left zero n live live' = refl
  x_left (suc k) n live live' =
      ap (λ ps. same_mode (h n) X || (not (no_parents ps) && list_all (eff_x k g' h) ps)) (leaves.parents n live live')
      ∙ ap (λ b. same_mode (h n) X || (not (no_parents (parents_of g n)) && b))
      (all_same (eff_x k g' h) (eff_x k g h) (parents_of g n) (λ p up. let there = leaves.stand n p up in x_left k p there.0 there.1))

-- the holder's grants stay too
pub effective_left : (s s' : State) (t : ℕ) → IsLawful s → IsLawful s' → LeavesParents s.graph s'.graph → s'.held t ≡ s.held t → (n : NodeId)
    → is_live s.graph n ≡ true → is_live s'.graph n ≡ true → effective s' t n ≡ effective s t n
effective_left s s' t law law' leaves keeps n live live' =
    let k : ℕ = node_count s.graph in
    let k' : ℕ = node_count s'.graph in
    let xs : eff_x k' s'.graph (s'.held t) n ≡ eff_x k s.graph (s.held t) n =
    same_bool _ _ (λ x. eff_x_any s' law' t k n live' (ap (λ h. eff_x k s'.graph h n) keeps ∙ x_left s.graph s'.graph (s.held t) leaves k n live live' ∙ x))
    (λ x. eff_x_any s law t k' n live (sym (x_left s.graph s'.graph (s.held t) leaves k' n live live') ∙ (ap (λ h. eff_x k' s'.graph h n) (sym keeps) ∙ x))) in
    let ss : eff_s k' s'.graph (s'.held t) n ≡ eff_s k s.graph (s.held t) n =
    same_bool _ _ (λ x. ap (λ h. eff_s k' s'.graph h n) keeps ∙ read_on_eff s'.graph law'.graph (s.held t) n live'
    (eff_s_route s'.graph (s.held t) k n (s_left s.graph s'.graph (s.held t) leaves k n live live' ∙ x))) (λ x. read_on_eff s.graph law.graph (s.held t) n live
    (eff_s_route s.graph (s.held t) k' n
    (sym (s_left s.graph s'.graph (s.held t) leaves k' n live live') ∙ (ap (λ h. eff_s k' s'.graph h n) (sym keeps) ∙ x)))) in
    ap₂ (λ x y. if x then effect.X else (if y then effect.S else effect.None)) xs ss

-- A record is adopted: the nodes from before stay with their keys and parents, and the new one is a record.

module _ (g : Graph) (law : IsLawfulGraph g) (f : NodeId) (node : Node) where
  -- the record's file is marked
  abbrev pub with_row : Graph
  with_row = marked (born_node g node) f

  pub row_live : (n : NodeId) → is_live g n ≡ true → is_live with_row n ≡ true
  row_live n live = marked_live (born_node g node) f n ∙ ap is_some (old_same g law (node ∷ []) n live) ∙ live

  pub row_parents : (n : NodeId) → is_live g n ≡ true → parents_of with_row n ≡ parents_of g n
  row_parents n live = marked_parents (born_node g node) f n ∙ ap parents_in (old_same g law (node ∷ []) n live)

  pub row_keys : (n : NodeId) → is_live g n ≡ true → keys_in (shape_of with_row n) ≡ keys_in (shape_of g n)
  row_keys n live = marked_keys (born_node g node) f n ∙ ap (λ o. keys_in (shape_in o)) (old_same g law (node ∷ []) n live)

  pub row_leaves : LeavesParents g with_row
  row_leaves = record {
    parents = λ n live _. row_parents n live;
    stand = λ n p up. let there = law.parents_live n p up in (there, row_live p there);
  }

  -- a new node is the record
  pub row_came : is_record_shape (Some node.shape) ≡ true → (n : NodeId) → is_live g n ≡ false → is_live with_row n ≡ true
      → is_record_shape (shape_of with_row n) ≡ true
  row_came rec n dead live =
      let x = live_node (node_at (born_node g node) n) (sym (marked_live (born_node g node) f n) ∙ live) in
      marked_record (born_node g node) f n ∙ old_or_new g law (node ∷ []) n x.0 x.1 (λ old. absurd (clash (ap is_some old) dead))
      (λ k at new. ap (λ o. is_record_shape (shape_in o)) x.1 ∙ ap (λ (y : Node). is_record_shape (Some y.shape)) (sym (only k x.0 at)) ∙ rec)
    where
      only : (k : ℕ) (y : Node) → place_in (node ∷ []) k ≡ Some y → node ≡ y
      only zero y e = cc
      only (suc k) y e = absurd (cc e)

-- A record is forgotten.

module _ (g : Graph) (law : IsLawfulGraph g) (r : NodeId) (rec : is_record_shape (shape_of g r) ≡ true) where
  -- a node that lives was there before
  pub left_was : (n : NodeId) → is_live (without_node g r) n ≡ true → node_at (without_node g r) n ≡ node_at g n
  left_was n live' = let x = live_node (node_at (without_node g r) n) live' in x.1 ∙ sym (was_there g law r rec n x.0 x.1)

  pub forgotten_leaves : LeavesParents g (without_node g r)
  forgotten_leaves = record {
    parents = λ n _ live'. ap parents_in (left_was n live');
    stand = λ n p up. let there = law.parents_live n p up in (there, ap is_some (plain_stays g law r rec p (parent_plain g law n p up)) ∙ there);
  }

  -- what is gone is the record
  pub gone_is : (n : NodeId) → is_live g n ≡ true → is_live (without_node g r) n ≡ false → n ≡ r
  gone_is n live dead = grind (arith, nat_tests, same_node n r, same_node-equal)

-- a node that does not live has no locks
pub dead-idle : (s : State) → IsLawful s → (n : NodeId) → is_live s.graph n ≡ false → is_idle s n ≡ true
dead-idle s law n dead = free-idle s n (λ u. nobody_holds s law u n (λ live. clash live dead)) (no_queue (s.queue n) (λ u h. clash (law.waits_live u n h) dead))
