-- What a command that is not refused may count on, and escalations. For the calls that have conditions.
use Rattle.gl_model.proofs.Words.{◌&&◌, ◌++◌, ◌==◌, [], ◌||◌, ◌∙◌, ◌∷◌, ◌≡◌, ◌≢◌, Active, active_on, all_at, and_both, any_found, ap, ap₂, arith}
use Rattle.gl_model.proofs.Words.{asked_by_escalation, bad_mode, Bool, child_held, clash, cond, condemned_test, false, find, first_not_ix, first_of_all}
use Rattle.gl_model.proofs.Words.{first_refusal, fits, held_child, holds, if◌then◌else◌, intends, intends_over, IS, is_at_least, is_child, is_covered, is_live}
use Rattle.gl_model.proofs.Words.{is_record_shape, is_write, IsLawful, IX, List, list_all, list_any, listed, live_by, members, Mode, ModeFitsKind, nat_tests}
use Rattle.gl_model.proofs.Words.{NL, no_parents, no_txn, NodeId, nodes, None, none_some, not, not_false, not_refused, not_true, Option, or_no, parents_of}
use Rattle.gl_model.proofs.Words.{raised, refl, Refusal, rules, S, same_mode, same_node, shape_of, shed, Some, some_at, some_no_node, split, State, status_in}
use Rattle.gl_model.proofs.Words.{status_of, supremum, supremum-above, supremum-not_NL, sym, test_fails, true, Txn, TxnId, waiting_test, wanted, X, ℕ}
use Rattle.gl_model.proofs.law.Keeps.{IsLess, less-lawful, nl_is, pumped-lawful, with_grant-lawful}
use Rattle.gl_model.proofs.law.Takes.{taken-less}

-- a mode that may write is held
holds_write : (m : Mode) → is_at_least m IX ≡ true → not (same_mode m NL) ≡ true
holds_write m h = search rules

-- What a command that is not refused may count on.

pub active_in : (age : ℕ) (x : Option Txn) → live_by age x ≡ true → waiting_test (status_in x) ≡ None → condemned_test (status_in x) ≡ None
    → status_in x ≡ Some Active
active_in age None live w c = clash live refl
active_in age (Some x) live w c = grind (arith, nat_tests)

-- an active transaction on a living node, after any first test
pub active_after : (s : State) (t : TxnId) (n : NodeId) (first : Option Refusal) (rest : List (Option Refusal))
    → first_refusal (first ∷ active_on s t (n ∷ []) ++ rest) ≡ None
    → (status_of s t.slot ≡ Some Active) × (is_live s.graph n ≡ true) × (first_refusal rest ≡ None)
active_after s t n first rest h =
    let a = not_refused first _ h in
    let b = not_refused (no_txn s t) _ a.1 in
    let c = not_refused (waiting_test (status_of s t.slot)) _ b.1 in
    let d = not_refused (condemned_test (status_of s t.slot)) _ c.1 in
    let e = not_refused (some_no_node s.graph (n ∷ [])) _ d.1 in (
      active_in t.age (s.txns t.slot) (not_false _ (test_fails _ _ b.0)) c.0 d.0,
      (and_both (is_live s.graph n) _ (not_false _ (test_fails _ _ e.0))).0,
      e.1,
    )

pub wanted_not_nl : (a m : Mode) → same_mode m NL ≡ false → supremum a m ≢ NL
wanted_not_nl a m h e = clash (ap (λ x. same_mode x NL) e) (supremum-not_NL a m h)

record_modes : (a m : Mode) → (same_mode a S || same_mode a X) ≡ true → (same_mode m S || same_mode m X) ≡ true
    → (same_mode (supremum a m) S || same_mode (supremum a m) X) ≡ true
record_modes a m h k = search rules

-- the wanted mode fits the kind, as the held and the requested one do
pub mode_fits : (s : State) → IsLawful s → (t : ℕ) (n : NodeId) (m : Mode) → bad_mode s n m ≡ None → (same_mode m NL ≡ false)
    × ModeFitsKind s n (wanted s t n m)
mode_fits s law t n m h =
    let both = or_no _ _ (test_fails _ _ h) in (
      both.0,
      λ is. let own = asked is both.1 in split (holds (members s n) t) (λ k. record_modes (s.held t n) m ((law.grants_live t n k).2 is) own)
          (λ k. ap (λ a. same_mode (supremum a m) S || same_mode (supremum a m) X) (nl_is (s.held t n) k) ∙ own),
    )
  where
    asked : is_record_shape (shape_of s.graph n) ≡ true → (is_record_shape (shape_of s.graph n) && not (same_mode m S || same_mode m X)) ≡ false
        → (same_mode m S || same_mode m X) ≡ true
    asked is k = not_false _ (sym (ap (λ b. b && not (same_mode m S || same_mode m X)) is) ∙ k)

-- the graph rule
pub all_ix : (held : NodeId → Mode) (ps : List NodeId) → first_not_ix held ps ≡ None → list_all (λ p. is_at_least (held p) IX) ps ≡ true
all_ix held [] h = refl
all_ix held (p ∷ ps) h = grind (arith, nat_tests, is_at_least (held p) IX, all_ix held ps)

-- no refusal by the rule of the graph means that it is met
pub rule_met : (held : NodeId → Mode) (ps : List NodeId) (m : Mode)
    → cond (intends_over held ps m) None (cond (is_write m) (first_not_ix held ps) (first_of_all ps)) ≡ None → intends_over held ps m ≡ true
rule_met held ps m h = grind (arith, nat_tests, is_write m, list_all (λ p. is_at_least (held p) IX) ps, no_parents ps, all_ix held ps, empty ps)
  where
    empty : (qs : List NodeId) → first_of_all qs ≡ None → no_parents qs ≡ true
    empty [] k = refl
    empty (q ∷ qs) k = absurd (none_some (sym k))

-- nodes that pass a test
none_found : (f : NodeId → Bool) (q : NodeId) (xs : List NodeId) → child_held (find f xs) ≡ None → list_any (same_node q) xs ≡ true → f q ≡ false
none_found f q [] h k = clash k refl
none_found f q (x ∷ xs) h k = grind (arith, nat_tests, f x, none_found f q xs)

-- no child was found, so none is held
pub no_child : (s : State) → IsLawful s → (t : ℕ) (n q : NodeId) → held_child s t n ≡ None → is_live s.graph q ≡ true → is_child s.graph n q ≡ true
    → holds (members s q) t ≡ true → ⊥
no_child s law t n q h live child held =
    clash (ap₂ (λ a b. a && b) child held) (none_found (λ c. is_child s.graph n c && holds (members s c) t) q (nodes s.graph) h
    (listed s.graph law.graph q live))

-- Escalating keeps the law.

-- if the old mode meets the rule, so does a new one that writes only if the old one did
rule_of_old : (held : NodeId → Mode) (ps : List NodeId) (a m : Mode) → is_write m ≡ is_write a → intends_over held ps a ≡ true → intends_over held ps m ≡ true
rule_of_old held ps a m e h = ap (λ w. cond w (list_all (λ p. is_at_least (held p) IX) ps) (no_parents ps || list_any (λ p. is_at_least (held p) IS) ps)) e ∙ h

write_above : (a m : Mode) → is_write a ≡ true → is_write (supremum a m) ≡ true
write_above a m h = search rules

write_s : (a : Mode) → is_write a ≡ false → is_write (supremum a S) ≡ false
write_s a h = search rules

module _ (s : State) (law : IsLawful s) (t : ℕ) (n : NodeId) where
  -- a transaction that holds a child to write holds the node to write
  writes_up : (c : NodeId) → is_child s.graph n c ≡ true → is_write (s.held t c) ≡ true → is_write (s.held t n) ≡ true
  writes_up c child writes =
      all_at (λ p. is_at_least (s.held t p) IX) (parents_of s.graph c) n child
      (sym (ap (λ w. cond w (list_all (λ p. is_at_least (s.held t p) IX) (parents_of s.graph c))
      (no_parents (parents_of s.graph c) || list_any (λ p. is_at_least (s.held t p) IS) (parents_of s.graph c))) writes)
      ∙ law.grants_intend t c (holds_write (s.held t c) writes))

  -- so the raised mode writes only if the old one did
  writes_same : is_write (wanted s t n (asked_by_escalation s t n)) ≡ is_write (s.held t n)
  writes_same =
      split (is_write (s.held t n)) (λ e. write_above (s.held t n) (asked_by_escalation s t n) e ∙ sym e)
      (λ e. ap is_write (ap (supremum (s.held t n)) (ap (λ b. if b then X else S) (none_writes e))) ∙ write_s (s.held t n) e ∙ sym e)
    where
      none_writes : is_write (s.held t n) ≡ false → list_any (λ c. is_child s.graph n c && is_write (s.held t c)) (nodes s.graph) ≡ false
      none_writes e = not_true _ (λ h. let found = any_found (λ c. is_child s.graph n c && is_write (s.held t c)) (nodes s.graph) h in
          let both = and_both _ _ found.2 in clash (writes_up found.0 both.0 both.1) e)

  -- and meets the rule of the graph as the old one did
  pub raised_intends : holds (members s n) t ≡ true → intends s t n (wanted s t n (asked_by_escalation s t n)) ≡ true
  raised_intends held = rule_of_old (s.held t) (parents_of s.graph n) (s.held t n) (wanted s t n (asked_by_escalation s t n)) writes_same
      (law.grants_intend t n held)

  pub raised-lawful : status_of s t ≡ Some Active → is_live s.graph n ≡ true → is_record_shape (shape_of s.graph n) ≡ false → holds (members s n) t ≡ true
      → fits s.most (members s n) t (wanted s t n (asked_by_escalation s t n)) ≡ true → IsLawful (raised s t n)
  raised-lawful active live plain held fit =
      with_grant-lawful s law t n (wanted s t n (asked_by_escalation s t n)) active live (λ is. clash is plain)
      (raised_intends held) (supremum-above (s.held t n) (asked_by_escalation s t n)) fit

-- children are released whose own children are not held
module _ (s : State) (law : IsLawful s) (t : ℕ) (n : NodeId) (active : status_of s t ≡ Some Active) where
  free : (q p : NodeId) → is_covered s t n q ≡ false → holds (members s q) t ≡ true → is_live s.graph q ≡ true → is_child s.graph p q ≡ true
      → is_covered s t n p ≡ false
  free q p off h live child =
      not_true _ (λ e. let a = and_both _ _ e in let b = and_both _ _ a.0 in
      clash b.1 (ap not (some_at (λ x. is_child s.graph p x && holds (members s x) t) (nodes s.graph) q (listed s.graph law.graph q live)
      (ap₂ (λ x y. x && y) child h))))

  -- a covered child has no child that is held, so every lock that stays has its parents
  pub shed-less : IsLess s (λ u c. if (u == t) && is_covered s t n c then NL else s.held u c) s.queue s.txns (is_covered s t n)
  shed-less = taken-less s law t (is_covered s t n) (is_covered s t n) active free (λ q h. h)

  -- and then the children grant from their fronts
  pub shed-lawful : IsLawful (shed s t n)
  shed-lawful =
      pumped-lawful (record s { held = λ u c. if (u == t) && is_covered s t n c then NL else s.held u c }) (is_covered s t n)
      (less-lawful s law (λ u c. if (u == t) && is_covered s t n c then NL else s.held u c) s.queue s.txns (is_covered s t n) shed-less)
