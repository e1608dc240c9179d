-- Queues with a wait removed, or one placed. For waits that begin and end.
use Rattle.gl_model.proofs.Words.{◌&&◌, ◌++◌, ◌==◌, [], ◌||◌, ◌∙◌, ◌∷◌, ◌≡◌, ◌≢◌, age_in, and_both, ap, ap₂, arith, Bool, clash, enters, false, filter}
use Rattle.gl_model.proofs.Words.{filter-append, fits, freed, freed_unless, front, holds, if◌then◌else◌, is_among_waiters, is_empty, is_some, is_waiter, List}
use Rattle.gl_model.proofs.Words.{list_all, list_any, Members, Mode, nat_tests, no, NodeId, not, number_other, Option, or_elim, or_left, or_right, placed, refl}
use Rattle.gl_model.proofs.Words.{same_node, same_number, since_in, Some, split, status_in, sym, true, Txn, Waiter, Waiting, waits_at, without_waiter, ℕ}
use Rattle.gl_model.proofs.queues.Waiters.{ahead, ahead_first, among_append, among_waits, if-false, if-true, keep_filter, none_filtered, not_among, placed_case}
use Rattle.gl_model.proofs.queues.Waiters.{placed_other as another_placed, some_wait, waits_of, without_other}

-- A queue with a wait removed, and one with a wait placed.

same_slot : (t : ℕ) → (t == t) ≡ true
same_slot t = grind (arith, nat_tests)

-- one that remains is another
pub out_of_without : (t u : ℕ) (q : List Waiter) → is_among_waiters u (without_waiter t q) ≡ true → (is_among_waiters u q ≡ true) × (u ≢ t)
out_of_without t u [] h = clash h refl
out_of_without t u (w ∷ q) h = grind (arith, nat_tests, out_of_without t u q)

-- another's waits stay
pub without_filter : (t u : ℕ) (q : List Waiter) → u ≢ t → filter (is_waiter u) (without_waiter t q) ≡ filter (is_waiter u) q
without_filter t u q ne = without_other t u q (λ e. ne (sym e))

pub any_left : (p r : Waiter → Bool) (xs : List Waiter) → list_any p (filter r xs) ≡ true → list_any p xs ≡ true
any_left p r [] h = h
any_left p r (x ∷ xs) h = grind (arith, nat_tests, r x, any_left p r xs)

-- the order ahead of one waiter in a queue from which others were removed
pub filtered_ahead : (f : Waiter → Bool) (a b : ℕ) (q : List Waiter) → list_all (λ w. not (is_waiter a w) || f w) q ≡ true → ahead (filter f q) a b ≡ true
    → ahead q a b ≡ true
filtered_ahead f a b [] all h = h
filtered_ahead f a b (w ∷ q) all h =
    grind (arith, nat_tests, f w, w.0 == a, w.0 == b, filtered_ahead f a b q, any_left (is_waiter a) f q, ahead_first (filter f q) a b)

-- the same of those chosen by slot
pub keep_ahead : (p : ℕ → Bool) (a b : ℕ) (q : List Waiter) → p a ≡ true → ahead (filter (λ w. p w.0) q) a b ≡ true → ahead q a b ≡ true
keep_ahead p a b q pa h = filtered_ahead (λ w. p w.0) a b q (own q) h
  where
    own : (l : List Waiter) → list_all (λ w. not (is_waiter a w) || p w.0) l ≡ true
    own [] = refl
    own (w ∷ l) = grind (arith, nat_tests, is_waiter a w, own l, pa, same_number w.0 a)

-- and the order among the others, if one wait is removed
pub without_ahead : (t a b : ℕ) (q : List Waiter) → ahead (without_waiter t q) a b ≡ true → ahead q a b ≡ true
without_ahead t a b q h =
    keep_ahead (λ v. not (v == t)) a b q (ap not (number_other a t (out_of_without t a q (ahead_first (without_waiter t q) a b h)).1)) h

-- if t does not wait, nothing is removed
pub without_none : (t : ℕ) (q : List Waiter) → is_among_waiters t q ≡ false → without_waiter t q ≡ q
without_none t [] h = refl
without_none t (w ∷ q) h = grind (arith, nat_tests, without_none t q)

-- among those chosen by slot, that slot is chosen
pub chosen_is : (p : ℕ → Bool) (u : ℕ) (q : List Waiter) → is_among_waiters u (filter (λ w. p w.0) q) ≡ true → p u ≡ true
chosen_is p u q h = split (p u) (λ e. e) (λ e. clash h (none_filtered u (filter (λ w. p w.0) q) (keep_filter p u q ∙ if-false _ e)))

none_kept : (p : ℕ → Bool) (q : List Waiter) → ((a : ℕ) → is_among_waiters a q ≡ true → p a ≡ false) → filter (λ w. p w.0) q ≡ []
none_kept p [] out = refl
none_kept p (w ∷ q) out = grind (arith, nat_tests, out w.0 (or_left _ _ (same_slot w.0)), none_kept p q (λ a h. out a (or_right (w.0 == a) _ h)))

pub among_same : (u : ℕ) (a b : List Waiter) → filter (is_waiter u) a ≡ filter (is_waiter u) b → is_among_waiters u a ≡ true → is_among_waiters u b ≡ true
among_same u a b e h = among_waits u b ∙ ap some_wait (sym e) ∙ sym (among_waits u a) ∙ h

-- another's waits stay
pub placed_other : (g : Members) (q : List Waiter) (t u : ℕ) (m : Mode) → u ≢ t → filter (is_waiter u) (placed g q t m) ≡ filter (is_waiter u) q
placed_other g q t u m ne = another_placed g t u q m (λ e. ne (sym e))

-- t is there once, with its mode
pub placed_self : (g : Members) (q : List Waiter) (t : ℕ) (m : Mode) → is_among_waiters t q ≡ false → filter (is_waiter t) (placed g q t m) ≡ (t, m) ∷ []
placed_self g q t m out = placed_case (λ l. waits_of t l ≡ (t, m) ∷ []) g q t m
    (λ e. once (filter (λ w. holds g w.0) q) (filter (λ w. not (holds g w.0)) q) (gone (holds g)) (gone (λ x. not (holds g x))))
    (λ e. once q [] (not_among t q out) refl)
  where
    once : (xs ys : List Waiter) → waits_of t xs ≡ [] → waits_of t ys ≡ [] → waits_of t (xs ++ (t, m) ∷ ys) ≡ (t, m) ∷ []
    once xs ys e f = filter-append (is_waiter t) xs ((t, m) ∷ ys) ∙ ap₂ (λ a b. a ++ b) e (if-true _ (same_slot t) ∙ ap (λ l. (t, m) ∷ l) f)

    gone : (p : ℕ → Bool) → waits_of t (filter (λ w. p w.0) q) ≡ []
    gone p = keep_filter p t q ∙ split (p t) (λ e. if-true _ e ∙ not_among t q out) (λ e. if-false _ e)

-- a holder waits only after holders
abbrev pub HoldersFirst : Members → List Waiter → Type 0
HoldersFirst g q = (a b : ℕ) → holds g a ≡ true → ahead q a b ≡ true → holds g b ≡ true

holders_then : (p : ℕ → Bool) (r : List Waiter) (a b : ℕ) (q : List Waiter) → (ahead r a b ≡ true → p b ≡ true) → ahead (filter (λ w. p w.0) q ++ r) a b ≡ true
    → p b ≡ true
holders_then p r a b [] rest h = rest h
holders_then p r a b (w ∷ q) rest h = grind (arith, nat_tests, p w.0, holders_then p r a b q rest)

-- the order within a first part is the order of the whole
pub ahead_within : (a b : ℕ) (r q : List Waiter) → is_among_waiters a q ≡ true → ahead (q ++ r) a b ≡ true → ahead q a b ≡ true
ahead_within a b r [] here h = clash here refl
ahead_within a b r (w ∷ q) here h = grind (arith, nat_tests, ahead_within a b r q)

-- holders stay ahead of newcomers
pub placed_order : (g : Members) (q : List Waiter) (t : ℕ) (m : Mode) → HoldersFirst g q → HoldersFirst g (placed g q t m)
placed_order g q t m sorted = placed_case (HoldersFirst g) g q t m
    (λ et a b ha h. holders_then (holds g) ((t, m) ∷ filter (λ w. not (holds g w.0)) q) a b q (λ k.
    let both = and_both (not (t == a)) _ k in
    split (t == b) (λ e. sym (ap (holds g) (same_number t b e)) ∙ et) (λ e. let on = sym (if-false _ e) ∙ both.1 in
    clash (chosen_is (λ x. not (holds g x)) a q (ahead_first (filter (λ w. not (holds g w.0)) q) a b on)) (ap not ha))) h)
    (λ et a b ha k. split (is_among_waiters a q) (λ e. sorted a b ha (ahead_within a b ((t, m) ∷ []) q e k))
    (λ e. or_elim _ _ (sym (among_append a q ((t, m) ∷ [])) ∙ ahead_first (q ++ (t, m) ∷ []) a b k) (λ f. clash f e)
    (λ f. or_elim (t == a) false f (λ is. clash (ap (holds g) (same_number t a is) ∙ ha) et) (λ no. clash no refl))))

front_head : (most : ℕ) (g : Members) (w : Waiter) (q r : List Waiter) → front most g (w ∷ q) ≡ [] → front most g (w ∷ r) ≡ []
front_head most g w q r h = grind (arith, nat_tests, fits most g w.0 w.1)

-- the head of the queue is as before, or is what does not fit
pub placed_front : (most : ℕ) (g : Members) (q : List Waiter) (t : ℕ) (m : Mode) → HoldersFirst g q → front most g q ≡ [] → enters most g q t m ≡ false
    → front most g (placed g q t m) ≡ []
placed_front most g q t m sorted before out = placed_case (λ l. front most g l ≡ []) g q t m
    (λ e. as_holder q sorted before (grind (arith, nat_tests, out, e)))
    (λ e. as_newcomer q before (ap (λ b. fits most g t m && (b || is_empty q)) (sym e) ∙ out))
  where
    as_holder : (l : List Waiter) → HoldersFirst g l → front most g l ≡ [] → fits most g t m ≡ false
        → front most g (filter (λ w. holds g w.0) l ++ (t, m) ∷ filter (λ w. not (holds g w.0)) q) ≡ []
    as_holder [] so be off = if-false _ off
    as_holder (w ∷ l) so be off =
        split (holds g w.0) (λ e. ap (λ b. front most g ((if b then w ∷ filter (λ v. holds g v.0) l else filter (λ v. holds g v.0) l) ++ (t, m)
        ∷ filter (λ v. not (holds g v.0)) q)) e ∙ front_head most g w l (filter (λ v. holds g v.0) l ++ (t, m) ∷ filter (λ v. not (holds g v.0)) q) be)
        (λ e. ap (λ k. front most g (k ++ (t, m) ∷ filter (λ v. not (holds g v.0)) q)) (if-false _ e
        ∙ none_kept (holds g) l (λ a h. split (holds g a) (λ ha. clash (so a w.0 ha (first_ahead a h ha e)) e) (λ ha. ha))) ∙ if-false _ off)
      where
        first_ahead : (a : ℕ) → is_among_waiters a l ≡ true → holds g a ≡ true → holds g w.0 ≡ false → ahead (w ∷ l) a w.0 ≡ true
        first_ahead a h ha hw = grind (arith, nat_tests, same_slot w.0, same_number)

    as_newcomer : (l : List Waiter) → front most g l ≡ [] → (fits most g t m && is_empty l) ≡ false → front most g (l ++ (t, m) ∷ []) ≡ []
    as_newcomer [] be off = grind (arith, nat_tests, fits most g t m)
    as_newcomer (w ∷ l) be off = front_head most g w l (l ++ (t, m) ∷ []) be

-- Queues from which waiters are removed, and their transactions.

pub filter_yes : (p : Waiter → Bool) (x : Waiter) (xs : List Waiter) → p x ≡ true → filter p (x ∷ xs) ≡ x ∷ filter p xs
filter_yes p x xs t = ap (λ b. if b then x ∷ filter p xs else filter p xs) t

pub filter_no : (p : Waiter → Bool) (x : Waiter) (xs : List Waiter) → p x ≡ false → filter p (x ∷ xs) ≡ filter p xs
filter_no p x xs t = ap (λ b. if b then x ∷ filter p xs else filter p xs) t

pub filter_swap : (p r : Waiter → Bool) (xs : List Waiter) → filter p (filter r xs) ≡ filter r (filter p xs)
filter_swap p r [] = refl
filter_swap p r (x ∷ xs) = grind (arith, nat_tests, filter_swap p r xs)

pub none_left : (p : Waiter → Bool) (xs : List Waiter) → filter p xs ≡ [] → list_any p xs ≡ false
none_left p [] e = refl
none_left p (x ∷ xs) e = grind (arith, nat_tests, p x, none_left p xs)

-- the one that passes the first test passes the second, if one that passes the first remains
pub one_stays : (p r : Waiter → Bool) (xs : List Waiter) (y : Waiter) → filter p xs ≡ y ∷ [] → list_any p (filter r xs) ≡ true → r y ≡ true
one_stays p r xs y one h =
    split (r y) (λ t. t) (λ f. absurd (no (sym (none_left p (filter r xs) (filter_swap p r xs ∙ ap (filter r) one ∙ filter_no r y [] f)) ∙ h)))

pub one_left : (p r : Waiter → Bool) (xs : List Waiter) (y : Waiter) → filter p xs ≡ y ∷ [] → r y ≡ true → filter p (filter r xs) ≡ y ∷ []
one_left p r xs y one t = filter_swap p r xs ∙ ap (filter r) one ∙ filter_yes r y [] t

pub unless_some : (keeps : ℕ → Bool) (n : NodeId) (u : ℕ) (o : Option Txn) → is_some (freed_unless keeps n u o) ≡ is_some o
unless_some keeps n u o = grind (arith, nat_tests)

pub unless_age : (keeps : ℕ → Bool) (n : NodeId) (u : ℕ) (o : Option Txn) → age_in (freed_unless keeps n u o) ≡ age_in o
unless_age keeps n u o = grind (arith, nat_tests)

pub unless_since : (keeps : ℕ → Bool) (n : NodeId) (u : ℕ) (o : Option Txn) → since_in (freed_unless keeps n u o) ≡ since_in o
unless_since keeps n u o = grind (arith, nat_tests)

pub unless_waits : (keeps : ℕ → Bool) (n q : NodeId) (m : Mode) (u : ℕ) (o : Option Txn) → status_in (freed_unless keeps n u o) ≡ Some (Waiting q m)
    → (status_in o ≡ Some (Waiting q m)) × (same_node q n ≡ true → keeps u ≡ true)
unless_waits keeps n q m u o e = grind (arith, nat_tests)

pub waits_unless : (keeps : ℕ → Bool) (n q : NodeId) (u : ℕ) (o : Option Txn) → waits_at (status_in o) q ≡ true → (same_node q n ≡ true → keeps u ≡ true)
    → waits_at (status_in (freed_unless keeps n u o)) q ≡ true
waits_unless keeps n q u o h k = grind (arith, nat_tests, same_node q n)

-- one that does not wait on n is as it was
pub freed_other : (n : NodeId) (x : Option Txn) → waits_at (status_in x) n ≡ false → freed n x ≡ x
freed_other n x h = grind (arith, nat_tests, x)
