-- What nodes grant from their fronts, in any order, and without one transaction. For releases of many nodes.
use Rattle.gl_model.proofs.Words.{◌&&◌, ◌++◌, ◌==◌, [], ◌||◌, ◌∙◌, ◌∷◌, ◌≡◌, Active, after_grants, ap, append-nil, ap₂, are_compatible, arith, awake, Bool}
use Rattle.gl_model.proofs.Words.{clash, Condemned, drop, drop-nil, false, fits, front, front-and_rest, fun_ext, granted_at, if◌then◌else◌, is_among_waiters}
use Rattle.gl_model.proofs.Words.{length, List, list_all, Members, members, Mode, nat_tests, NL, NL-compatible, NodeId, None, not_true, Option, or_left, or_no}
use Rattle.gl_model.proofs.Words.{pumped, range_with_len, refl, same_number, Some, State, Status, stripped, sym, true, true≢false, Txn, Waiter, Waiting}
use Rattle.gl_model.proofs.Words.{with_mode, without_waiter, woken, ℕ}
use Rattle.gl_model.proofs.queues.Edits.{out_of_without, without_none}
use Rattle.gl_model.proofs.queues.Waiters.{all_weaker, among_append}

-- The order in which nodes grant from their fronts does not matter.

-- a queue is what is granted of it and what is left
pub granted_parts : (s : State) (chosen : NodeId → Bool) (n : NodeId) → granted_at s chosen n ++ drop (length (granted_at s chosen n)) (s.queue n) ≡ s.queue n
granted_parts s chosen n = grind (arith, nat_tests, chosen n, front-and_rest s.most (members s n) (s.queue n))

-- waiters granted in two parts, and removed from the queue in two parts
granted_append : (xs ys : List Waiter) (g : Members) → after_grants g (xs ++ ys) ≡ after_grants (after_grants g xs) ys
granted_append [] ys g = refl
granted_append (x ∷ xs) ys g = granted_append xs ys (with_mode g x.0 x.1)

dropped_append : (xs ys q : List Waiter) → drop (length ys) (drop (length xs) q) ≡ drop (length (xs ++ ys)) q
dropped_append [] ys q = refl
dropped_append (x ∷ xs) ys [] = drop-nil (length ys)
dropped_append (x ∷ xs) ys (w ∷ q) = dropped_append xs ys q

-- a slot woken by one list and then by another is woken by both joined
woken_append : (f g h : NodeId → List Waiter) (u : ℕ) → ((n : NodeId) → h n ≡ f n ++ g n) → (x : Option Txn) → woken g u (woken f u x) ≡ woken h u x
woken_append f g h u is None = refl
woken_append f g h u is (Some x) = ap (λ st. Some (record x { status = st })) (by x.status)
  where
    by : (st : Status) → awake g u (awake f u st) ≡ awake h u st
    by Active = refl
    by Condemned = refl
    by (Waiting n m) = grind (arith, nat_tests, is_among_waiters u (f n), ap (is_among_waiters u) (is n) ∙ among_append u (f n) (g n))

-- nodes that grant from their fronts one after the other do what they do together
pub pumped-pumped : (s : State) (P Q : NodeId → Bool) → ((n : NodeId) → (P n && Q n) ≡ false) → pumped (pumped s P) Q ≡ pumped s (λ n. P n || Q n)
pumped-pumped s P Q apart = λ i. record (pumped s (λ n. P n || Q n)) {
  held = λ t n. (sym (granted_append (granted_at s P n) (granted_at (pumped s P) Q n) (members s n)) ∙ ap (after_grants (members s n)) (sym (together n))) i t;
  queue = λ n. (dropped_append (granted_at s P n) (granted_at (pumped s P) Q n) (s.queue n) ∙ ap (λ ws. drop (length ws) (s.queue n)) (sym (together n))) i;
  txns = λ t. woken_append (granted_at s P) (granted_at (pumped s P) Q) (granted_at s (λ n. P n || Q n)) t together (s.txns t) i;
}
  where
    joined : (most : ℕ) (m : Members) (q : List Waiter) (a b : Bool) → (a && b) ≡ false
        → (if a || b then front most m q else []) ≡ (if a then front most m q else [])
        ++ (if b then front most (λ t. after_grants m (if a then front most m q else []) t) (drop (length (if a then front most m q else [])) q) else [])
    joined most m q true true h = absurd (true≢false h)
    joined most m q true false h = sym (append-nil (front most m q))
    joined most m q false b h = refl

    together : (n : NodeId) → granted_at s (λ q. P q || Q q) n ≡ granted_at s P n ++ granted_at (pumped s P) Q n
    together n = joined s.most (members s n) (s.queue n) (P n) (Q n) (apart n)

-- A state without one transaction: what its nodes grant from their fronts.

-- the members without t
abbrev pub bare : ℕ → Members → Members
bare t g = λ u. if u == t then NL else g u

-- a queue without t's wait has none of t
pub out_of_own : (t : ℕ) (q : List Waiter) → is_among_waiters t (without_waiter t q) ≡ false
out_of_own t q = not_true _ (λ h. (out_of_without t t q h).1 refl)

-- to remove a slot that holds nothing changes nothing
pub bare_free : (t : ℕ) (g : Members) → g t ≡ NL → bare t g ≡ g
bare_free t g free = grind (arith, nat_tests, same_number)

-- a grant to another, before t is removed or after
bare_with_mode : (t : ℕ) (g : Members) (u : ℕ) (m : Mode) → (u == t) ≡ false → bare t (with_mode g u m) ≡ with_mode (bare t g) u m
bare_with_mode t g u m other = fun_ext (λ v. grind (arith, nat_tests, v == t, v == u))

-- the same of many grants
pub bare_granted : (t : ℕ) (ws : List Waiter) (g : Members) → is_among_waiters t ws ≡ false → bare t (after_grants g ws) ≡ after_grants (bare t g) ws
bare_granted t [] g out = refl
bare_granted t (w ∷ ws) g out =
    let both = or_no (w.0 == t) (is_among_waiters t ws) out in
    bare_granted t ws (with_mode g w.0 w.1) both.1 ∙ ap (λ h. after_grants h ws) (bare_with_mode t g w.0 w.1 both.0)

-- what fits fits without t
bare_fits : (t : ℕ) (g : Members) (u : ℕ) (m : Mode) (us : List ℕ) → list_all (λ v. (v == u) || are_compatible m (g v)) us ≡ true
    → list_all (λ v. (v == u) || are_compatible m (bare t g v)) us ≡ true
bare_fits t g u m us h = all_weaker (λ v. (v == u) || are_compatible m (g v)) (λ v. (v == u) || are_compatible m (bare t g v)) us
    (λ v e. grind (arith, nat_tests, v == t, NL-compatible m)) h

-- a grant of t can only block: without t the front that fits with t is granted, and then what fits after it
pub bare_front : (most t : ℕ) (q : List Waiter) (g : Members) → is_among_waiters t q ≡ false
    → front most (bare t g) q ≡ front most g q ++ front most (bare t (after_grants g (front most g q))) (drop (length (front most g q)) q)
bare_front most t [] g out = refl
bare_front most t (w ∷ q) g out = by (fits most g w.0 w.1) refl (bare_front most t q (with_mode g w.0 w.1) both.1)
  where
    both : ((w.0 == t) ≡ false) × (is_among_waiters t q ≡ false)
    both = or_no (w.0 == t) (is_among_waiters t q) out

    by : (b : Bool) → fits most g w.0 w.1 ≡ b → front most (bare t (with_mode g w.0 w.1)) q ≡ front most (with_mode g w.0 w.1) q
        ++ front most (bare t (after_grants (with_mode g w.0 w.1) (front most (with_mode g w.0 w.1) q))) (drop (length (front most (with_mode g w.0 w.1) q)) q)
        → front most (bare t g) (w ∷ q) ≡ (if b then w ∷ front most (with_mode g w.0 w.1) q else [])
        ++ front most (bare t (after_grants g (if b then w ∷ front most (with_mode g w.0 w.1) q else [])))
        (drop (length (if b then w ∷ front most (with_mode g w.0 w.1) q else [])) (w ∷ q))
    by true e r = grind (arith, nat_tests, bare_fits t g w.0 w.1 (range_with_len 0 most) e, bare_with_mode t g w.0 w.1 both.0, r)
    by false e r = refl

dropped_waits : (t : ℕ) (xs q : List Waiter) → is_among_waiters t q ≡ false → is_among_waiters t (drop (length xs) q) ≡ false
dropped_waits t [] q out = out
dropped_waits t (x ∷ xs) [] out = refl
dropped_waits t (x ∷ xs) (w ∷ q) out = dropped_waits t xs q (or_no (w.0 == t) (is_among_waiters t q) out).1

-- a front, if it grants, with t there, and then a front, if it grants, once t is gone: what is granted at once without t
two_parts : (most t : ℕ) (g : Members) (q : List Waiter) → is_among_waiters t q ≡ false → (a b : Bool) → (a ≡ true → b ≡ false → g t ≡ NL)
    → (if a || b then front most (bare t g) (without_waiter t q) else []) ≡ (if a then front most g q else [])
    ++ (if b then front most (bare t (after_grants g (if a then front most g q else [])))
    (without_waiter t (drop (length (if a then front most g q else [])) q)) else [])
two_parts most t g q out true true free =
    ap (front most (bare t g)) (without_none t q out) ∙ bare_front most t q g out
    ∙ ap (λ r. front most g q ++ front most (bare t (after_grants g (front most g q))) r)
    (sym (without_none t (drop (length (front most g q)) q) (dropped_waits t (front most g q) q out)))
two_parts most t g q out true false free = ap₂ (front most) (bare_free t g (free refl refl)) (without_none t q out) ∙ sym (append-nil (front most g q))
two_parts most t g q out false true free = refl
two_parts most t g q out false false free = refl

-- one that does not wait is not granted
pub granted_waits : (s : State) (t : ℕ) (P : NodeId → Bool) (n : NodeId) → is_among_waiters t (s.queue n) ≡ false
    → is_among_waiters t (granted_at s P n) ≡ false
granted_waits s t P n out = not_true _ (λ h. clash (ap (is_among_waiters t) (sym (granted_parts s P n))
    ∙ among_append t (granted_at s P n) _ ∙ or_left _ _ h) out)

-- the nodes of P grant, then t is removed, then those of Q grant: as if t were removed before, if it holds no node that is in P alone
module _ (s : State) (t : ℕ) (P Q : NodeId → Bool) (out : (n : NodeId) → is_among_waiters t (s.queue n) ≡ false) (free : (n : NodeId) → P n ≡ true → Q n ≡ false
    → s.held t n ≡ NL) where
  abbrev first : NodeId → List Waiter
  first n = granted_at s P n

  abbrev then_more : NodeId → List Waiter
  then_more n = granted_at (stripped (pumped s P) t) Q n

  abbrev at_once : NodeId → List Waiter
  at_once n = granted_at (stripped s t) (λ q. P q || Q q) n

  in_two_parts : (n : NodeId) → at_once n ≡ first n ++ then_more n
  in_two_parts n = two_parts s.most t (members s n) (s.queue n) (out n) (P n) (Q n) (free n)

  pub stripped_after : pumped (stripped (pumped s P) t) Q ≡ pumped (stripped s t) (λ n. P n || Q n)
  stripped_after = λ i. record (pumped (stripped s t) (λ n. P n || Q n)) {
    held = λ u n. held_is n i u;
    queue = λ n. queue_is n i;
    txns = λ u. txn_is u i;
  }
    where
      held_is : (n : NodeId) → after_grants (bare t (after_grants (members s n) (first n))) (then_more n) ≡ after_grants (bare t (members s n)) (at_once n)
      held_is n =
          ap (λ g. after_grants g (then_more n)) (bare_granted t (first n) (members s n) (granted_waits s t P n (out n)))
          ∙ sym (granted_append (first n) (then_more n) (bare t (members s n))) ∙ ap (after_grants (bare t (members s n))) (sym (in_two_parts n))

      queue_is : (n : NodeId) → drop (length (then_more n)) (without_waiter t (drop (length (first n)) (s.queue n)))
          ≡ drop (length (at_once n)) (without_waiter t (s.queue n))
      queue_is n =
          ap (drop (length (then_more n))) (without_none t (drop (length (first n)) (s.queue n)) (dropped_waits t (first n) (s.queue n) (out n)))
          ∙ dropped_append (first n) (then_more n) (s.queue n)
          ∙ ap₂ (λ ws q. drop (length ws) q) (sym (in_two_parts n)) (sym (without_none t (s.queue n) (out n)))

      txn_is : (u : ℕ) → woken then_more u (if u == t then None else woken first u (s.txns u)) ≡ woken at_once u (if u == t then None else s.txns u)
      txn_is u = grind (arith, nat_tests, u == t, woken_append first then_more at_once u in_two_parts (s.txns u))
