-- The place of a waiter in its queue is the number of those ahead of it. For listings.
use Rattle.gl_table.proofs.Words.{◌+◌, ◌<◌, ◌==◌, [], ◌||◌, ◌∙◌, ◌∷◌, ◌≡◌, ◌≤◌, and_both, ap, ap₂, arith, Bool, both, clash, count_by, count_cons, false}
use Rattle.gl_table.proofs.Words.{fun_ext, get_or, is_among_waiters, is_distinct, is_waiter, IsLawful, lawful_orderly, length, length-take-le, List, Mode}
use Rattle.gl_table.proofs.Words.{nat_tests, NodeId, None, not, not-true, not_true, number_same, Option, or_elim, or_left, or_right, position, position-Some}
use Rattle.gl_table.proofs.Words.{range_with_len, refl, same_number, Some, State, status_of, suc, sym, take, true, txn_there, Waiter, Waiting, waits_there}
use Rattle.gl_table.proofs.Words.{zero, ℕ}
use Rattle.gl_graph.proofs.Rekey.{not_missed}
use Rattle.gl_model.proofs.queues.Waiters.{ahead-first, one_among}
use Rattle.gl_model.proofs.telling.Fronts.{distinct_once}
use Rattle.gl_table.specs.Table.{ahead_of}

-- Slots, counted.

-- a slot is none of those from a greater one on
count_past : (t k n : ℕ) → t < k → count_by (λ u. t == u) (range_with_len k n) ≡ 0
count_past t k zero lt = refl
count_past t k (suc n) lt = grind (arith, nat_tests, count_cons (λ u. t == u) k (range_with_len (k + 1) n), count_past t (k + 1) n)

-- and one of those among which it is
count_one : (t k n : ℕ) → k ≤ t → t < k + n → count_by (λ u. t == u) (range_with_len k n) ≡ 1
count_one t k zero le lt = absurd (omega arith)
count_one t k (suc n) le lt = grind (arith, nat_tests, count_cons (λ u. t == u) k (range_with_len (k + 1) n), count_past t (k + 1) n, count_one t (k + 1) n)

-- what passes one of two tests, if nothing passes both
count_either : (f g : ℕ → Bool) (xs : List ℕ) → ((u : ℕ) → f u ≡ true → g u ≡ false) → count_by (λ u. f u || g u) xs ≡ count_by f xs + count_by g xs
count_either f g [] apart = refl
count_either f g (x ∷ xs) apart = grind (
  arith,
  nat_tests,
  count_cons (λ u. f u || g u) x xs,
  count_cons f x xs,
  count_cons g x xs,
  count_either f g xs apart,
  apart x,
)

-- the waiters of a queue in which no slot is twice
count_among : (most : ℕ) (q : List Waiter) → is_distinct q ≡ true → ((u : ℕ) → is_among_waiters u q ≡ true → u < most)
    → count_by (λ u. is_among_waiters u q) (range_with_len 0 most) ≡ length q
count_among most [] distinct below = none (range_with_len 0 most)
  where
    none : (xs : List ℕ) → count_by (λ u. false) xs ≡ 0
    none [] = refl
    none (x ∷ xs) = let one = count_cons (λ u. false) x xs in let rest = none xs in omega (arith, one, rest)
count_among most (w ∷ q) distinct below =
    let parts = and_both (not (is_among_waiters w.0 q)) (is_distinct q) distinct in
    let low = below w.0 (or_left _ _ (number_same w.0 w.0 refl)) in
    let one = count_one w.0 0 most (omega arith) (omega (arith, low)) in
    let rest = count_among most q parts.1 (λ u h. below u (or_right _ _ h)) in
    let all : count_by (λ u. is_among_waiters u (w ∷ q)) (range_with_len 0 most)
    ≡ count_by (λ u. w.0 == u) (range_with_len 0 most) + count_by (λ u. is_among_waiters u q) (range_with_len 0 most) =
    count_either (λ u. w.0 == u) (λ u. is_among_waiters u q) (range_with_len 0 most)
    (λ u e. not_true _ (λ h. clash (ap (λ v. is_among_waiters v q) (same_number w.0 u e) ∙ h) (not-true _ parts.0))) in
    omega (arith, one, rest, all)

-- Those before a place.

among_taken : (q : List Waiter) (i u : ℕ) → is_among_waiters u (take i q) ≡ true → is_among_waiters u q ≡ true
among_taken q zero u h = clash h refl
among_taken [] (suc i) u h = clash h refl
among_taken (w ∷ q) (suc i) u h = or_elim (w.0 == u) _ h (λ here. or_left _ _ here) (λ there. or_right _ _ (among_taken q i u there))

distinct_taken : (q : List Waiter) (i : ℕ) → is_distinct q ≡ true → is_distinct (take i q) ≡ true
distinct_taken q zero h = refl
distinct_taken [] (suc i) h = refl
distinct_taken (w ∷ q) (suc i) h =
    let parts = and_both (not (is_among_waiters w.0 q)) (is_distinct q) h in
    both _ _ (ap not (not_true _ (λ k. clash (among_taken q i w.0 k) (not-true _ parts.0)))) (distinct_taken q i parts.1)

none_taken : (q : List Waiter) (i t : ℕ) (d : Waiter) → i ≤ length q → ((k : ℕ) → k < i → is_waiter t (get_or q k d) ≡ false)
    → is_among_waiters t (take i q) ≡ false
none_taken q zero t d le off = refl
none_taken [] (suc i) t d le off = refl
none_taken (w ∷ q) (suc i) t d le off =
    ap₂ (λ a b. a || b) (off 0 (omega arith)) (none_taken q i t d (omega arith) (λ k lt. off (suc k) (omega arith)))

module _ (s : State) (law : IsLawful s) (t : ℕ) (n : NodeId) where
  below : (u : ℕ) → is_among_waiters u (s.queue n) ≡ true → u < s.most
  below u h = let st = waits_there s (lawful_orderly s law) u n h in law.slots_below u (txn_there (s.txns u) _ st.1)

  distinct : is_distinct (s.queue n) ≡ true
  distinct = distinct_once (s.queue n) (λ u h. let st = waits_there s (lawful_orderly s law) u n h in ((u, st.0), law.one_wait u n st.0 st.1))

  -- the place of a waiter is the number of those ahead
  pub place-ahead : (m : Mode) (o : Option ℕ) → status_of s t ≡ Some (Waiting n m) → o ≡ position (is_waiter t) (s.queue n) → o ≡ Some (ahead_of s t n)
  place-ahead m None st is = absurd (not_missed (is_waiter t) (s.queue n) (one_among t (s.queue n) (t, m) (law.one_wait t n m st)) (sym is))
  place-ahead m (Some i) st is =
      let d : Waiter = (t, m) in
      let at = position-Some (is_waiter t) (s.queue n) i d (sym is) in
      let off = none_taken (s.queue n) i t d (omega (arith, at.0)) at.2 in
      let ahead = fun_ext (λ u. ahead-first (s.queue n) t u i d at.0 (same_number _ t at.1) off) in
      ap Some (sym (ap (λ (f : ℕ → Bool). count_by f (range_with_len 0 s.most)) ahead
      ∙ count_among s.most (take i (s.queue n)) (distinct_taken (s.queue n) i distinct) (λ u h. below u (among_taken (s.queue n) i u h))
      ∙ length-take-le i (s.queue n) (omega (arith, at.0))))
