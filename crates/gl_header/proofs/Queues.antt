-- A queue after a removal, and the places of entries in it.
use Rattle.gl_header.proofs.Words.{◌&&◌, ◌+◌, ◌<◌, ◌==◌, [], ◌∙◌, ◌∷◌, ◌≡◌, ◌≤◌, AllByRecursion, and_both, arith, Bool, cond, false, is_among_waiters}
use Rattle.gl_header.proofs.Words.{is_distinct, is_empty, is_entry, is_waiter, length, List, list_all, ltb, Mode, most_slots, nat_tests, NL, None, not, not_NL}
use Rattle.gl_header.proofs.Words.{Option, refl, Some, split, subst, suc, sym, true, Waiter, without, without_waiter, ℕ}
use Rattle.std.proofs.Common.{map, MatchOption, position}
use Rattle.std.specs.List.{IsDistinct, list_any, position_or_len, remove}
use Rattle.std.proofs.lemmas.Map.Steps.{length-le_from_distinct_below}
use Rattle.gl_header.specs.Entries.{IsPlaceOf}

-- a removal

pub among-without : (es : List Waiter) (s t : ℕ) → is_distinct es ≡ true → is_among_waiters t (without es s) ≡ (not (s == t) && is_among_waiters t es)
among-without [] s t d = grind arith
among-without (e ∷ es) s t d = grind (arith, nat_tests, among-without es s t)

pub distinct-without : (es : List Waiter) (s : ℕ) → is_distinct es ≡ true → is_distinct (without es s) ≡ true
distinct-without [] s d = refl
distinct-without (e ∷ es) s d = grind (arith, nat_tests, distinct-without es s, among-without es s)

pub all-without : (p : Waiter → Bool) (es : List Waiter) (s : ℕ) → list_all p es ≡ true → list_all p (without es s) ≡ true
all-without p [] s a = refl
all-without p (e ∷ es) s a = grind (arith, all-without p es s)

pub without-absent : (es : List Waiter) (s : ℕ) → is_among_waiters s es ≡ false → without es s ≡ es
without-absent [] s h = refl
without-absent (e ∷ es) s h = grind (arith, without-absent es s)

remove-cons : (e : Waiter) (es : List Waiter) (n : ℕ) → remove (e ∷ es) (1 + n) ≡ e ∷ remove es n
remove-cons e es n = let k : 1 + n ≡ suc n = omega arith in rw k

pub remove-first : (es : List Waiter) (s : ℕ) → is_among_waiters s es ≡ true → remove es (position_or_len (is_waiter s) es) ≡ without es s
remove-first [] s h = grind arith
remove-first (e ∷ es) s h = grind (arith, remove-first es s, remove-cons e es (position_or_len (is_waiter s) es))

none-filtered : (q : List Waiter) (s : ℕ) → is_among_waiters s q ≡ false → without_waiter s q ≡ q
none-filtered [] s h = refl
none-filtered (w ∷ q) s h = grind (arith, none-filtered q s)

pub without-queue : (q : List Waiter) (s : ℕ) → is_distinct q ≡ true → without q s ≡ without_waiter s q
without-queue [] s d = refl
without-queue (w ∷ q) s d =
    let r : without q s ≡ without_waiter s q = without-queue q s (and_both (not (is_among_waiters w.0 q)) _ d).1 in
    split (w.0 == s)
    (λ e. let h : is_among_waiters s q ≡ false = grind (arith, nat_tests) in let k = none-filtered q s h in grind arith)
    (λ e. grind arith)

-- what the place of a slot's first entry implies

first-within : (es : List Waiter) (s : ℕ) → is_among_waiters s es ≡ ltb (position_or_len (is_waiter s) es) (length es)
first-within [] s = refl
first-within (e ∷ es) s = grind (arith, nat_tests, first-within es s)

pub place-cases : (es : List Waiter) (s : ℕ) (r : Option ℕ) → r ≡ position (is_waiter s) es → MatchOption r (is_among_waiters s es ≡ false) (IsPlaceOf es s)
place-cases es s r e =
    let P : Option ℕ → Type 0 = λ o. MatchOption o (is_among_waiters s es ≡ false) (IsPlaceOf es s) in
    let f = first-within es s in
    subst P (sym e) (elim (ltb (position_or_len (is_waiter s) es) (length es)) as
    (λ b. ltb (position_or_len (is_waiter s) es) (length es) ≡ b → P (cond b (Some (position_or_len (is_waiter s) es)) None)) [
      | true ↦ λ t. record {
        there = f ∙ t;
        within = grind (arith, nat_tests);
        first = refl;
        removed = remove-first es s (f ∙ t);
      }
      | false ↦ λ t. f ∙ t
    ] refl)

-- slots below the limit, no two the same, are no more than that

slots : List Waiter → List ℕ
slots es = map (λ e. e.0) es

absent : (es : List Waiter) (s : ℕ) → is_among_waiters s es ≡ false → AllByRecursion (λ y. (s == y) ≡ false) (slots es)
unfolding slots
absent [] s h = tt
absent (e ∷ es) s h = (grind (arith, nat_tests), absent es s (grind arith))

distinct-slots : (es : List Waiter) → is_distinct es ≡ true → IsDistinct ◌==◌ (slots es)
unfolding slots IsDistinct
distinct-slots [] d = tt
distinct-slots (e ∷ es) d = (absent es e.0 (grind arith), distinct-slots es (grind arith))

slot-below : (es : List Waiter) (s : ℕ) → list_all is_entry es ≡ true → list_any (λ y. s == y) (slots es) ≡ true → s < most_slots
unfolding slots
slot-below [] s v h = grind arith
slot-below (e ∷ es) s v h = grind (arith, nat_tests, slot-below es s)

length-slots : (es : List Waiter) → length (slots es) ≡ length es
unfolding slots
length-slots [] = refl
length-slots (e ∷ es) = grind (arith, length-slots es)

pub length-le_128 : (es : List Waiter) → is_distinct es ≡ true → list_all is_entry es ≡ true → length es ≤ most_slots
length-le_128 es d v =
    rw (← length-slots es) (length-le_from_distinct_below (slots es) most_slots (distinct-slots es d) (λ q h. slot-below es q v h))

-- a lock of a slot below the limit
pub is_entry-from : (s : ℕ) (m : Mode) → s < most_slots → (m ≡ NL → ⊥) → is_entry (s, m) ≡ true
is_entry-from s m b n = let k = not_NL m n in let t : ltb s most_slots ≡ true = grind (arith, nat_tests) in grind arith
