-- A rekey and a move leave the mover's effective mode on every node as it was.
use Rattle.gl_steps.proofs.Words.{◌&&◌, [], ◌||◌, ◌∙◌, ◌∷◌, ◌≡◌, ◌≢◌, ⊎_elim, and_both, ap, ap₂, Bool, both, eff_s, eff_x, effective, false, fun_ext, Graph}
use Rattle.gl_steps.proofs.Words.{if◌then◌else◌, is_read, List, list_all, list_any, Mode, moved_to, no_parents, Node, node_count, NodeId, not, or_left}
use Rattle.gl_steps.proofs.Words.{or_right, parents_of, refl, rekeyed, same_mode, same_node, same_node-equal, split, State, suc, sym, true, true≢false}
use Rattle.gl_steps.proofs.Words.{with_parents, X, zero, ℕ}
use Rattle.gl_modes.proofs.NodeLemmas.{same_node-other}
use Rattle.gl_model.specs.declared.answers.Effect.TheVariants as effect
use Rattle.gl_steps.specs.declared.command.Command.TheVariants as command
use Rattle.gl_steps.specs.Promises.{MoveKeepsMover, RekeyKeepsMover}
use Rattle.gl_steps.proofs.EachStep.{each_step}
use Rattle.gl_model.proofs.law.Move.{count_same, HoldsNode, HoldsParents, moved_node, Moves, new_parents, others_parents, rekeyed_to}
use Rattle.gl_steps.proofs.MoveCommands.{move_moves, rekey_moves}
use Rattle.gl_model.proofs.law.Effects.{x_reads}
use Rattle.gl_steps.proofs.GraphChanges.{held_x}

s_held : (k : ℕ) (g : Graph) (held : NodeId → Mode) (n : NodeId) → is_read (held n) ≡ true → eff_s k g held n ≡ true
s_held zero g held n h = h
s_held (suc k) g held n h = or_left (is_read (held n)) _ h

x_over : (k : ℕ) (g : Graph) (held : NodeId → Mode) (ps : List NodeId) → list_all (λ p. same_mode (held p) X) ps ≡ true → list_all (eff_x k g held) ps ≡ true
x_over k g held [] h = refl
x_over k g held (p ∷ ps) h = let t = and_both _ _ h in both (eff_x k g held p) (list_all (eff_x k g held) ps) (held_x k g held p t.0) (x_over k g held ps t.1)

s_over : (k : ℕ) (g : Graph) (held : NodeId → Mode) (ps : List NodeId) → no_parents ps ≡ false → list_all (λ p. same_mode (held p) X) ps ≡ true
    → list_any (eff_s k g held) ps ≡ true
s_over k g held [] some h = absurd (true≢false some)
s_over k g held (p ∷ ps) some h = or_left (eff_s k g held p) (list_any (eff_s k g held) ps) (s_held k g held p (x_reads (held p) (and_both _ _ h).0))

-- with X on all of some parents both modes are there, by one step or more
pub x_by_parents : (k : ℕ) (g : Graph) (held : NodeId → Mode) (n : NodeId) (ps : List NodeId) → parents_of g n ≡ ps → no_parents ps ≡ false
    → list_all (λ p. same_mode (held p) X) ps ≡ true → eff_x (suc k) g held n ≡ true
x_by_parents k g held n ps e some h = ap (λ qs. same_mode (held n) X || (not (no_parents qs) && list_all (eff_x k g held) qs)) e
    ∙ or_right (same_mode (held n) X) _ (both _ _ (ap not some) (x_over k g held ps h))

s_by_parents : (k : ℕ) (g : Graph) (held : NodeId → Mode) (n : NodeId) (ps : List NodeId) → parents_of g n ≡ ps → no_parents ps ≡ false
    → list_all (λ p. same_mode (held p) X) ps ≡ true → eff_s (suc k) g held n ≡ true
s_by_parents k g held n ps e some h = ap (λ qs. is_read (held n) || list_any (eff_s k g held) qs) e ∙ or_right (is_read (held n)) _ (s_over k g held ps some h)

-- if the mode on one node is the same and others have the same parents, all modes are the same
module _ (g g' : Graph) (held : NodeId → Mode) (n : NodeId) (others : (q : NodeId) → q ≢ n → parents_of g' q ≡ parents_of g q)
    (x_here : (k : ℕ) → eff_x k g' held n ≡ eff_x k g held n) (s_here : (k : ℕ) → eff_s k g' held n ≡ eff_s k g held n) where
  -- effective X, by the steps up
  pub x_same : (k : ℕ) (q : NodeId) → eff_x k g' held q ≡ eff_x k g held q
  x_same zero q = refl
  x_same (suc k) q =
      split (same_node q n) (λ e. ap (eff_x (suc k) g' held) (same_node-equal q n e) ∙ x_here (suc k) ∙ sym (ap (eff_x (suc k) g held) (same_node-equal q n e)))
      (λ e. ap₂ (λ (ps : List NodeId) (f : NodeId → Bool). same_mode (held q) X || (not (no_parents ps) && list_all f ps))
      (others q (same_node-other q n e)) (fun_ext (x_same k)))

  -- effective S, by the steps up
  pub s_same : (k : ℕ) (q : NodeId) → eff_s k g' held q ≡ eff_s k g held q
  s_same zero q = refl
  s_same (suc k) q =
      split (same_node q n) (λ e. ap (eff_s (suc k) g' held) (same_node-equal q n e) ∙ s_here (suc k) ∙ sym (ap (eff_s (suc k) g held) (same_node-equal q n e)))
      (λ e. ap₂ (λ (ps : List NodeId) (f : NodeId → Bool). is_read (held q) || list_any f ps) (others q (same_node-other q n e)) (fun_ext (s_same k)))

module _ (s : State) (t : ℕ) (n : NodeId) (was is : Node) (g' : Graph) (m : Moves s t n was is g') where
  x_kept : (k : ℕ) → eff_x k g' (s.held t) n ≡ eff_x k s.graph (s.held t) n
  x_kept zero = refl
  x_kept (suc k) =
      ⊎_elim (λ (a : HoldsNode s t n is.parents). held_x (suc k) g' (s.held t) n a.x ∙ sym (held_x (suc k) s.graph (s.held t) n a.x))
      (λ (b : HoldsParents s t n is.parents). x_by_parents k g' (s.held t) n is.parents (new_parents s t n was is g' m) b.some_new b.new
      ∙ sym (x_by_parents k s.graph (s.held t) n (parents_of s.graph n) refl b.some_old b.old)) m.right

  s_kept : (k : ℕ) → eff_s k g' (s.held t) n ≡ eff_s k s.graph (s.held t) n
  s_kept zero = refl
  s_kept (suc k) =
      ⊎_elim (λ (a : HoldsNode s t n is.parents). s_held (suc k) g' (s.held t) n (x_reads (s.held t n) a.x)
      ∙ sym (s_held (suc k) s.graph (s.held t) n (x_reads (s.held t n) a.x)))
      (λ (b : HoldsParents s t n is.parents). s_by_parents k g' (s.held t) n is.parents (new_parents s t n was is g' m) b.some_new b.new
      ∙ sym (s_by_parents k s.graph (s.held t) n (parents_of s.graph n) refl b.some_old b.old)) m.right

  -- and so the effective mode on every node
  pub mover_same : (q : NodeId) → effective (moved_to s n is.parents g') t q ≡ effective s t q
  mover_same q =
      let others = others_parents s t n was is g' m in
      let count = count_same s t n was is g' m in
      ap₂ (λ x y. if x then effect.X else (if y then effect.S else effect.None))
      (ap (λ k. eff_x k g' (s.held t) q) count ∙ x_same s.graph g' (s.held t) n others x_kept s_kept (node_count s.graph) q)
      (ap (λ k. eff_s k g' (s.held t) q) count ∙ s_same s.graph g' (s.held t) n others x_kept s_kept (node_count s.graph) q)

pub move_keeps_mover : MoveKeepsMover
move_keeps_mover t n ps s s' a told law step q =
    each_step (λ x. effective x t.slot q ≡ effective s t.slot q) s (command.Move t n ps) a told s' refl (λ next same. same)
    (λ free next acc.
    let m = move_moves s law t n ps free in
    ap (λ x. effective x t.slot q) acc.2 ∙ mover_same s t.slot n m.0 (moved_node ps.now m.0) (with_parents s.graph n ps.now) m.1 q)
    step

pub rekey_keeps_mover : RekeyKeepsMover
rekey_keeps_mover t r i key s s' a told law step q =
    each_step (λ x. effective x t.slot q ≡ effective s t.slot q) s (command.Rekey t r i key) a told s' refl (λ next same. same)
    (λ free next acc.
    let m = rekey_moves s law t r i key free in
    ap (λ x. effective x t.slot q) acc.2 ∙ mover_same s t.slot r m.0 (rekeyed_to s.graph r i key m.0) (rekeyed s.graph r i key) m.1 q)
    step
