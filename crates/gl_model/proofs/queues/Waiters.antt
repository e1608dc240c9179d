-- Queues of waiters: their places, their front, and what granting gives one slot. For all about queues.
use Rattle.gl_model.proofs.Words.{◌&&◌, ◌+◌, ◌++◌, ◌<◌, ◌==◌, [], ◌||◌, ◌∙◌, ◌∷◌, ◌≡◌, ◌≢◌, ◌⊎◌, after_grants, All-same, and_both, ap, append-nil, ap₂, arith}
use Rattle.gl_model.proofs.Words.{before_first, Bool, both, clash, differ-false, false, filter, filter-append, get_or, HeaderState, holds, if◌then◌else◌, inl}
use Rattle.gl_model.proofs.Words.{inr, is_ahead, is_among_waiters, is_waiter, IsLawfulHeader, length, List, list_all, list_any, list_any-append, list_any_at}
use Rattle.gl_model.proofs.Words.{Members, Mode, most_slots, nat_tests, not, number_other, number_same, or_elim, or_left, or_right, placed, refl, split, subst}
use Rattle.gl_model.proofs.Words.{suc, sym, take, take_more, true, Waiter, with_mode, without_waiter, zero, ℕ}

-- What a test picks that is decided.

pub if-true : {A : Type 0} {b : Bool} {x : A} (y : A) → b ≡ true → (if b then x else y) ≡ x
if-true {x = x} y e = ap (λ k. if k then x else y) e

pub if-false : {A : Type 0} {b : Bool} {y : A} (x : A) → b ≡ false → (if b then x else y) ≡ y
if-false {y = y} x e = ap (λ k. if k then x else y) e

-- a test that passes more
pub all_weaker : {A : Type 0} (p q : A → Bool) (xs : List A) → ((x : A) → p x ≡ true → q x ≡ true) → list_all p xs ≡ true → list_all q xs ≡ true
all_weaker p q [] more h = refl
all_weaker p q (x ∷ xs) more h = let b = and_both _ _ h in both _ _ (more x b.0) (all_weaker p q xs more b.1)

pub any_weaker : {A : Type 0} (p q : A → Bool) (xs : List A) → ((x : A) → p x ≡ true → q x ≡ true) → list_any p xs ≡ true → list_any q xs ≡ true
any_weaker p q [] more h = h
any_weaker p q (x ∷ xs) more h = or_elim _ _ h (λ e. or_left _ _ (more x e)) (λ e. or_right (q x) _ (any_weaker p q xs more e))

-- One slot's waits in a queue, and what granting from a front gives it.

pub no_cons : {A C : Type 0} {x : A} {xs : List A} → x ∷ xs ≡ [] → C
no_cons e = absurd (cc)

pub both_empty : (xs ys : List Waiter) → xs ++ ys ≡ [] → (xs ≡ []) × (ys ≡ [])
both_empty [] ys e = (refl, e)
both_empty (x ∷ xs) ys e = no_cons e

-- the waits of one slot
abbrev pub waits_of : ℕ → List Waiter → List Waiter
waits_of t q = filter (is_waiter t) q

abbrev pub some_wait : List Waiter → Bool
some_wait [] = false
some_wait (w ∷ ws) = true

pub among_waits : (t : ℕ) (q : List Waiter) → is_among_waiters t q ≡ some_wait (waits_of t q)
among_waits t [] = refl
among_waits t (w ∷ q) = grind (arith, nat_tests, is_waiter t w, among_waits t q)

pub one_among : (t : ℕ) (q : List Waiter) (w : Waiter) → waits_of t q ≡ w ∷ [] → is_among_waiters t q ≡ true
one_among t q w e = among_waits t q ∙ ap some_wait e

-- a waiter is found if the list of its waits is not empty
pub among_by_filter : (t : ℕ) (w : Waiter) (ws q : List Waiter) → filter (is_waiter t) q ≡ w ∷ ws → is_among_waiters t q ≡ true
among_by_filter t w ws q h = among_waits t q ∙ ap some_wait h

-- one that does not wait there has no waits there
pub not_among : (t : ℕ) (q : List Waiter) → is_among_waiters t q ≡ false → filter (is_waiter t) q ≡ []
not_among t [] h = refl
not_among t (v ∷ q) h = grind (arith, nat_tests, is_among_waiters t q, not_among t q)

pub none_filtered : (t : ℕ) (q : List Waiter) → filter (is_waiter t) q ≡ [] → is_among_waiters t q ≡ false
none_filtered t q h = among_waits t q ∙ ap some_wait h

-- the last of these modes
abbrev pub last_mode : Mode → List Waiter → Mode
last_mode m [] = m
last_mode m (w ∷ ws) = last_mode w.1 ws

-- a slot holds what it was granted last, or what it held
pub granted_mode : (g : Members) (t : ℕ) (ws : List Waiter) → after_grants g ws t ≡ last_mode (g t) (waits_of t ws)
granted_mode g t [] = refl
granted_mode g t (w ∷ ws) = granted_mode (with_mode g w.0 w.1) t ws ∙ grind (arith, nat_tests, is_waiter t w, t == w.0)

-- what a slot holds once these are granted
pub grants_other : (ws : List Waiter) (g : Members) (t : ℕ) → is_among_waiters t ws ≡ false → after_grants g ws t ≡ g t
grants_other ws g t h = granted_mode g t ws ∙ ap (last_mode (g t)) (not_among t ws h)

-- one grant to a slot is what it then holds
pub grants_one : (ws : List Waiter) (g : Members) (t : ℕ) (m : Mode) → filter (is_waiter t) ws ≡ (t, m) ∷ [] → after_grants g ws t ≡ m
grants_one ws g t m h = granted_mode g t ws ∙ ap (last_mode (g t)) h

-- one wait in two parts, and it is in the first
pub one_in_first : (xs ys : List Waiter) (w : Waiter) → xs ++ ys ≡ w ∷ [] → (xs ≡ [] → ⊥) → (xs ≡ w ∷ []) × (ys ≡ [])
one_in_first [] ys w h ne = absurd (ne refl)
one_in_first (x ∷ xs) ys w h ne =
    let e : x ≡ w = cc in let r : xs ++ ys ≡ [] = cc in
    let two = both_empty xs ys r in (ap₂ (λ a b. a ∷ b) e two.0, two.1)

-- one wait is in the one part or in the other
pub split_one : (xs ys : List Waiter) (w : Waiter) → xs ++ ys ≡ w ∷ [] → ((xs ≡ []) × (ys ≡ w ∷ [])) ⊎ ((xs ≡ w ∷ []) × (ys ≡ []))
split_one [] ys w e = inl (refl, e)
split_one (x ∷ xs) ys w e = inr (one_in_first (x ∷ xs) ys w e no_cons)

-- what is chosen by slot, of one slot's waits
pub keep_filter : (p : ℕ → Bool) (u : ℕ) (q : List Waiter) → waits_of u (filter (λ w. p w.0) q) ≡ (if p u then waits_of u q else [])
keep_filter p u [] = split (p u) (λ e. sym (if-true _ e)) (λ e. sym (if-false _ e))
keep_filter p u (w ∷ q) = grind (arith, nat_tests, p w.0, p u, keep_filter p u q)

-- a wait removed
pub without_other : (u t : ℕ) (q : List Waiter) → u ≢ t → waits_of t (without_waiter u q) ≡ waits_of t q
without_other u t q ne = keep_filter (λ v. not (v == u)) t q ∙ ap (λ b. if not b then waits_of t q else []) (differ-false t u ne)

pub without_self : (t : ℕ) (q : List Waiter) → waits_of t (without_waiter t q) ≡ []
without_self t q = keep_filter (λ v. not (v == t)) t q ∙ ap (λ b. if not b then waits_of t q else []) (number_same t t refl)

-- a holder is before a new wait, and others after it; or all are before
pub placed_case : (P : List Waiter → Type 0) (g : Members) (q : List Waiter) (t : ℕ) (m : Mode)
    → (holds g t ≡ true → P (filter (λ w. holds g w.0) q ++ (t, m) ∷ filter (λ w. not (holds g w.0)) q)) → (holds g t ≡ false → P (q ++ (t, m) ∷ []))
    → P (placed g q t m)
placed_case P g q t m first last = split (holds g t) (λ e. subst P (sym (if-true _ e)) (first e)) (λ e. subst P (sym (if-false _ e)) (last e))

-- another's wait put in
pub placed_other : (g : Members) (u t : ℕ) (q : List Waiter) (m : Mode) → u ≢ t → waits_of t (placed g q u m) ≡ waits_of t q
placed_other g u t q m ne = placed_case (λ l. waits_of t l ≡ waits_of t q) g q u m
    (λ e. skip (filter (λ w. holds g w.0) q) (filter (λ w. not (holds g w.0)) q)
    ∙ ap₂ (λ a b. a ++ b) (keep_filter (holds g) t q) (keep_filter (λ x. not (holds g x)) t q) ∙ parts (holds g t) (waits_of t q))
    (λ e. skip q [] ∙ append-nil (waits_of t q))
  where
    skip : (xs ys : List Waiter) → waits_of t (xs ++ (u, m) ∷ ys) ≡ waits_of t xs ++ waits_of t ys
    skip xs ys = filter-append (is_waiter t) xs ((u, m) ∷ ys) ∙ ap (λ l. waits_of t xs ++ l) (if-false _ (number_other u t ne))

    parts : (b : Bool) (l : List Waiter) → (if b then l else []) ++ (if not b then l else []) ≡ l
    parts true l = append-nil l
    parts false l = refl

-- Lists of waiters: which are ahead, what a front grants, what a removed wait leaves.

-- those ahead, one waiter after another
abbrev pub ahead : List Waiter → ℕ → ℕ → Bool
ahead [] t u = false
ahead (w ∷ q) t u = not (w.0 == t) && (if w.0 == u then is_among_waiters t q else ahead q t u)

-- the definition of ahead as a recursion
pub ahead_is : (q : List Waiter) (t u : ℕ) → is_ahead q t u ≡ ahead q t u
ahead_is [] t u = refl
ahead_is (w ∷ q) t u = by (w.0 == t) (w.0 == u) (is_among_waiters t q) refl (ahead_is q t u)
  where
    by : (a b c : Bool) → is_among_waiters t q ≡ c → (is_among_waiters t q && is_among_waiters u (before_first (is_waiter t) q)) ≡ ahead q t u
        → is_ahead (w ∷ q) t u ≡ ahead (w ∷ q) t u
    by a b c e h = grind (arith, nat_tests)

-- a waiter of one of two parts is in the whole
pub among_append : (t : ℕ) (a b : List Waiter) → is_among_waiters t (a ++ b) ≡ (is_among_waiters t a || is_among_waiters t b)
among_append t a b = list_any-append (is_waiter t) a b

-- one with another ahead of it waits, and so does that one
pub ahead_first : (q : List Waiter) (t u : ℕ) → ahead q t u ≡ true → is_among_waiters t q ≡ true
ahead_first [] t u h = clash h refl
ahead_first (w ∷ q) t u h = grind (arith, nat_tests, is_among_waiters t q, ahead_first q t u)

-- one that is ahead waits
pub ahead_second : (q : List Waiter) (t u : ℕ) → ahead q t u ≡ true → is_among_waiters u q ≡ true
ahead_second [] t u h = clash h refl
ahead_second (w ∷ q) t u h = grind (arith, nat_tests, ahead_second q t u)

-- the part after one without t
pub ahead_after : (a b : List Waiter) (t u : ℕ) → is_among_waiters t a ≡ false → ahead b t u ≡ true → ahead (a ++ b) t u ≡ true
ahead_after [] b t u out h = h
ahead_after (w ∷ a) b t u out h = grind (arith, nat_tests, w.0 == u, among_append t a b, ahead_first b t u h, ahead_after a b t u)

-- all of a first part are ahead of those that wait only after it
pub ahead_across : (a b : List Waiter) (t u : ℕ) → is_among_waiters t a ≡ false → is_among_waiters t b ≡ true → is_among_waiters u a ≡ true
    → ahead (a ++ b) t u ≡ true
ahead_across [] b t u out later h = clash h refl
ahead_across (w ∷ a) b t u out later h = grind (arith, nat_tests, w.0 == u, among_append t a b, ahead_across a b t u)

-- Those ahead in a queue, as the waiters that are passed; the slots of waiters.

-- a slot is ahead of t if it is before t's first wait
pub ahead-first : (q : List Waiter) (t u i : ℕ) (d : Waiter) → i < length q → (get_or q i d).0 ≡ t → is_among_waiters t (take i q) ≡ false
    → is_ahead q t u ≡ is_among_waiters u (take i q)
ahead-first q t u i d low at none = ahead_is q t u ∙ by q i low at none
  where
    by : (q : List Waiter) (i : ℕ) → i < length q → (get_or q i d).0 ≡ t → is_among_waiters t (take i q) ≡ false → ahead q t u ≡ is_among_waiters u (take i q)
    by [] i low at none = absurd (omega arith)
    by (w ∷ q) zero low at none = ap (λ b. not b && (if w.0 == u then is_among_waiters t q else ahead q t u)) (number_same w.0 t at)
    by (w ∷ q) (suc i) low at none =
        step (w.0 == t) (w.0 == u) _ _ _ _ none (list_any_at (is_waiter t) q i d (omega arith) (number_same _ t at)) (λ n. by q i (omega arith) at n)
      where
        step : (a b c r x y : Bool) → (a || c) ≡ false → x ≡ true → (c ≡ false → r ≡ y) → (not a && (if b then x else r)) ≡ (b || y)
        step a b c r x y h e k = grind (arith, nat_tests)

-- the slots of waiters are below 128
pub queue-below : (h : HeaderState) (q : List Waiter) (k : ℕ) (d : Waiter) → IsLawfulHeader h → q ≡ h.queue → k < length q → (get_or q k d).0 < most_slots
queue-below h q k d law is low = All-same (λ (e : Waiter). e.0 < most_slots) q h.queue is
    (λ j e lt. law.waiters_below (get_or h.queue j e).0 (list_any_at (is_waiter (get_or h.queue j e).0) h.queue j e lt (number_same _ _ refl))) k d low

-- one more of a queue
pub among-next : (q : List Waiter) (i u : ℕ) (d : Waiter) → i < length q
    → is_among_waiters u (take (i + 1) q) ≡ (is_among_waiters u (take i q) || (u == (get_or q i d).0))
among-next q i u d low =
    ap (is_among_waiters u) (take_more q i d low) ∙ among_append u (take i q) (get_or q i d ∷ [])
    ∙ ap (λ b. is_among_waiters u (take i q) || b) (last (get_or q i d).0)
  where
    last : (s : ℕ) → ((s == u) || false) ≡ (u == s)
    last s = grind (arith, nat_tests)
