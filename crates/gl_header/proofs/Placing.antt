-- The place of a new wait in the queue.
use Rattle.gl_header.proofs.Words.{◌&&◌, ◌+◌, ◌++◌, ◌==◌, [], ◌||◌, ◌∙◌, ◌∷◌, ◌≡◌, ◌≤◌, all_new, ap, arith, Bool, cond, false, filter, holds, if◌then◌else◌}
use Rattle.gl_header.proofs.Words.{insert, is_among_waiters, is_distinct, is_ordered, length, List, list_all, Members, Mode, nat_tests, not, placed, placed_in}
use Rattle.gl_header.proofs.Words.{prefix_len, refl, split, suc, sym, true, Waiter, ℕ}

pub placed_in-member : (g : Members) (q : List Waiter) (e : Waiter) → holds g e.0 ≡ true → insert q (prefix_len (λ w. holds g w.0) q) e ≡ placed_in g q e
placed_in-member g [] e h = refl
placed_in-member g (w ∷ ws) e h =
    let k : 1 + prefix_len (λ x. holds g x.0) ws ≡ suc (prefix_len (λ x. holds g x.0) ws) = omega arith in
    elim (holds g w.0) as (λ b. insert (w ∷ ws) (cond b (1 + prefix_len (λ x. holds g x.0) ws) 0) e ≡ cond (holds g e.0 && not b) (e ∷ w ∷ ws)
    (w ∷ placed_in g ws e)) [
      | true ↦ rw (k, h) (ap (λ z. w ∷ z) (placed_in-member g ws e h))
      | false ↦ rw h
    ]

pub placed_in-new : (g : Members) (q : List Waiter) (e : Waiter) → holds g e.0 ≡ false → q ++ e ∷ [] ≡ placed_in g q e
placed_in-new g [] e h = refl
placed_in-new g (w ∷ ws) e h = grind (arith, placed_in-new g ws e)

pub prefix-le : (p : Waiter → Bool) (q : List Waiter) → prefix_len p q ≤ length q
prefix-le p [] = omega arith
prefix-le p (w ∷ ws) = grind (arith, prefix-le p ws)

pub among-placed_in : (g : Members) (q : List Waiter) (e : Waiter) (t : ℕ) → is_among_waiters t (placed_in g q e) ≡ ((e.0 == t) || is_among_waiters t q)
among-placed_in g [] e t = refl
among-placed_in g (w ∷ ws) e t = grind (arith, among-placed_in g ws e t)

pub distinct-placed_in : (g : Members) (q : List Waiter) (e : Waiter) → is_distinct q ≡ true → is_among_waiters e.0 q ≡ false
    → is_distinct (placed_in g q e) ≡ true
distinct-placed_in g [] e d h = refl
distinct-placed_in g (w ∷ ws) e d h = grind (arith, nat_tests, distinct-placed_in g ws e, among-placed_in g ws e w.0)

pub all-placed_in : (p : Waiter → Bool) (g : Members) (q : List Waiter) (e : Waiter) → list_all p q ≡ true → p e ≡ true → list_all p (placed_in g q e) ≡ true
all-placed_in p g [] e a h = grind arith
all-placed_in p g (w ∷ ws) e a h = grind (arith, all-placed_in p g ws e)

pub ordered-placed_in : (g : Members) (q : List Waiter) (e : Waiter) → is_ordered g q ≡ true → is_ordered g (placed_in g q e) ≡ true
ordered-placed_in g [] e o = grind arith
ordered-placed_in g (w ∷ ws) e o = grind (arith, ordered-placed_in g ws e, all-placed_in (λ x. not (holds g x.0)) g ws e)

-- the same, as the model defines it

split-placed : (g : Members) (q : List Waiter) (e : Waiter) → holds g e.0 ≡ true → is_ordered g q ≡ true
    → placed_in g q e ≡ filter (λ w. holds g w.0) q ++ e ∷ filter (λ w. not (holds g w.0)) q
split-placed g [] e h o = refl
split-placed g (w ∷ q) e h o =
    split (holds g w.0)
    (λ k. let r = split-placed g q e h in grind arith)
    (λ k. let r = all-split g q in grind arith)
  where
    all-split : (g : Members) (q : List Waiter) → all_new g q ≡ true → (filter (λ w. holds g w.0) q ≡ []) × (filter (λ w. not (holds g w.0)) q ≡ q)
    all-split g [] h = (refl, refl)
    all-split g (w ∷ q) h = let r = all-split g q in grind arith

pub placed-list : (g : Members) (q : List Waiter) (s : ℕ) (m : Mode) → is_ordered g q ≡ true → placed_in g q (s, m) ≡ placed g q s m
placed-list g q s m o =
    split (holds g s)
    (λ h. split-placed g q (s, m) h o ∙ chosen _ _ h)
    (λ h. sym (placed_in-new g q (s, m) h) ∙ other _ _ h)
  where
    chosen : (a b : List Waiter) {t : Bool} → t ≡ true → a ≡ (if t then a else b)
    chosen a b h = rw h refl

    other : (a b : List Waiter) {t : Bool} → t ≡ false → b ≡ (if t then a else b)
    other a b h = rw h refl
