-- Nodes are dropped, and an index is made that its maker holds: what their tests leave, and that the law of a state is kept.
use Rattle.gl_steps.proofs.Words.{◌&&◌, [], ◌||◌, ◌∙◌, ◌∷◌, ◌≡◌, Active, and_both, ap, Bor, false, first_not_ix, first_refusal, holds_x_on_all, Inner}
use Rattle.gl_steps.proofs.Words.{is_file_shape, is_in_use, is_movable_shape, IsLawful, List, no_txn, NodeId, None, none_refused, not_false, Option, or_no}
use Rattle.gl_steps.proofs.Words.{refl, Refusal, refusal_of, same_mode, Shape, shape_of, Some, State, status_of, subst, sym, test_fails, tests_of, true, TxnId}
use Rattle.gl_steps.proofs.Words.{X, ℕ}
use Rattle.gl_graph.specs.Refusals.{has_records}
use Rattle.gl_graph.specs.Over.{over_refusal}
use Rattle.gl_model.specs.Calls.{holds_child, locked_to_drop, locked_to_index}
use Rattle.gl_model.proofs.law.Schema.{dropped_lawful, indexed_lawful, over_unheld}
use Rattle.gl_steps.specs.declared.command.Command.TheVariants as command
use Rattle.gl_steps.proofs.KeepsLaw.{KeepsLaw}
use Rattle.gl_steps.proofs.NotRefused.{active_is}
use Rattle.gl_header.specs.Header.{is_empty}

-- what the tests of a drop leave
pub record MayDrop (s : State) (t : TxnId) (n : NodeId) : Type 0 where
  pub named : no_txn s t ≡ None
  pub active : status_of s t.slot ≡ Some Active
  pub movable : is_movable_shape (shape_of s.graph n) ≡ true
  pub exclusive : holds_x_on_all s t.slot (locked_to_drop n (shape_of s.graph n)) ≡ true
  pub holds : same_mode (s.held t.slot n) X ≡ true
  pub free : is_in_use s.graph n ≡ false

-- the node itself is among what must be locked
pub itself_locked : (s : State) (t : ℕ) (n : NodeId) (o : Option Shape) → holds_x_on_all s t (locked_to_drop n o) ≡ true → same_mode (s.held t n) X ≡ true
itself_locked s t n (Some Inner) h = (and_both _ _ h).0
itself_locked s t n o h = (and_both _ _ h).0

pub may_drop : (s : State) (t : TxnId) (n : NodeId) → refusal_of s (command.Drop t n) ≡ None → MayDrop s t n
may_drop s t n free =
    let ok = none_refused (tests_of s (command.Drop t n)) free in
    let locked = not_false _ (test_fails _ _ (ok 6)) in
    record {
      named = ok 1;
      active = active_is s t (ok 1) (ok 2) (ok 3);
      movable = not_false _ (test_fails _ _ (ok 5));
      exclusive = locked;
      holds = itself_locked s t.slot n (shape_of s.graph n) locked;
      free = test_fails _ _ (ok 7);
    }

pub drop_keeps_law : (t : TxnId) (n : NodeId) → KeepsLaw (command.Drop t n)
drop_keeps_law t n s s' a told law free acc = let may = may_drop s t n free in
    subst IsLawful (sym acc.2) (dropped_lawful s law n may.movable may.free)

-- what the tests of such an index leave
pub record MayIndex (s : State) (t : TxnId) (ps : List NodeId) (f : NodeId) (bs : List ℕ) (rs : List NodeId) (ks : List ℕ) : Type 0 where
  pub named : no_txn s t ≡ None
  pub active : status_of s t.slot ≡ Some Active
  pub file : is_file_shape (shape_of s.graph f) ≡ true
  pub locked : holds_x_on_all s t.slot (locked_to_index s.graph f rs) ≡ true
  pub rule : first_not_ix (s.held t.slot) ps ≡ None
  pub unused : ((is_empty rs && has_records s.graph f) || holds_child s t.slot f) ≡ false
  pub free : over_refusal s.graph ps f bs rs ks ≡ None

passed : (o : Option Refusal) (os : List (Option Refusal)) → o ≡ None → first_refusal os ≡ None → first_refusal (o ∷ os) ≡ None
passed o os e rest = ap (λ x. first_refusal (x ∷ os)) e ∙ rest

pub may_index : (s : State) (t : TxnId) (ps : Bor (List NodeId)) (f : NodeId) (bs : Bor (List ℕ)) (rs : Bor (List NodeId)) (ks : Bor (List ℕ))
    → refusal_of s (command.IndexBy t ps f bs rs ks) ≡ None → MayIndex s t ps.now f bs.now rs.now ks.now
may_index s t ps f bs rs ks free =
    let ok = none_refused (tests_of s (command.IndexBy t ps f bs rs ks)) free in
    let place = or_no _ _ (or_no _ _ (test_fails _ _ (ok 6))).0 in
    record {
      named = ok 2;
      active = active_is s t (ok 2) (ok 3) (ok 4);
      file = not_false _ place.1;
      locked = not_false _ (test_fails _ _ (ok 7));
      rule = ok 8;
      unused = test_fails _ _ (ok 9);
      free = passed _ _ (ok 1) (passed _ _ (ok 5) (passed _ _ (ok 6) (passed _ _ (ok 10) (passed _ [] (ok 11) refl))));
    }

pub index_by_keeps_law : (t : TxnId) (ps : Bor (List NodeId)) (f : NodeId) (bs : Bor (List ℕ)) (rs : Bor (List NodeId)) (ks : Bor (List ℕ))
    → KeepsLaw (command.IndexBy t ps f bs rs ks)
index_by_keeps_law t ps f bs rs ks s s' a told law free acc =
    let may = may_index s t ps f bs rs ks free in
    subst IsLawful (sym acc.4)
    (indexed_lawful s law ps.now f bs.now rs.now ks.now may.free s'.graph acc.0 acc.1
    (over_unheld s law t.slot f rs.now may.file may.locked may.unused) t.slot may.active may.rule)
