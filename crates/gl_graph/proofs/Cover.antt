-- Rising numbers that all pass a test, as many as pass it, are all that pass it.
use Rattle.gl_graph.proofs.Words.{[], ap, and_both, arith, Bool, count_by, IsRising, length, List, list_all, list_any, nat_lt, nat_tests, no, number_same}
use Rattle.gl_graph.proofs.Words.{or_elim, or_left, or_right, other_number, range_with_len, refl, same_number, split}
use Rattle.gl_graph.proofs.Words.{suc, sym, true, zero, ℕ, ◌+◌, ◌<◌, ◌==◌, ◌∙◌}
use Rattle.gl_graph.proofs.Words.{◌∷◌, ◌≡◌, ◌≤◌}
use Rattle.gl_graph.proofs.Counts.{count_cons}
use Rattle.gl_graph.proofs.Tally.{ones}

number_all : (q : ℕ → Bool) (bs : List ℕ) (c : ℕ) → list_all q bs ≡ true → list_any (λ b. b == c) bs ≡ true → q c ≡ true
number_all q [] c all h = absurd (no h)
number_all q (b ∷ bs) c all h =
    let t = and_both (q b) (list_all q bs) all in
    or_elim (b == c) (list_any (λ x. x == c) bs) h (λ here. ap q (sym (same_number b c here)) ∙ t.0) (λ there. number_all q bs c t.1 there)

-- numbers from a on, n in all
abbrev pub AreWithin : (ℕ → Bool) → ℕ → ℕ → List ℕ → Type 0
AreWithin p a n bs = (c : ℕ) → list_any (λ b. b == c) bs ≡ true → (a ≤ c) × (c < a + n) × (p c ≡ true)

later : (p : ℕ → Bool) (a n b : ℕ) (bs : List ℕ) → IsRising (b ∷ bs) → a ≤ b → AreWithin p a (suc n) bs → AreWithin p (a + 1) n bs
later p a n b bs rise low all c h =
    let t = all c h in
    let above = number_all (λ x. nat_lt b x) bs c rise.0 h in
    let less : b < c = grind (arith, nat_tests) in
    (omega arith, omega arith, t.2)

within_more : (p : ℕ → Bool) (a n b : ℕ) (bs : List ℕ) → AreWithin p a n (b ∷ bs) → AreWithin p a n bs
within_more p a n b bs all c h = all c (or_right (b == c) (list_any (λ x. x == c) bs) h)

first_within : (p : ℕ → Bool) (a n b : ℕ) (bs : List ℕ) → AreWithin p a n (b ∷ bs) → (a ≤ b) × (b < a + n) × (p b ≡ true)
first_within p a n b bs all = all b (or_left (b == b) (list_any (λ x. x == b) bs) (number_same b b refl))

-- the first is above a: so are all
all_later : (p : ℕ → Bool) (a n b : ℕ) (bs : List ℕ) → IsRising (b ∷ bs) → a < b → AreWithin p a (suc n) (b ∷ bs) → AreWithin p (a + 1) n (b ∷ bs)
all_later p a n b bs rise low all c h =
    let t = all c h in
    or_elim (b == c) (list_any (λ x. x == c) bs) h (λ here. let e = same_number b c here in (omega arith, omega arith, t.2))
    (λ there. let above = number_all (λ x. nat_lt b x) bs c rise.0 there in let less : b < c = grind (arith, nat_tests) in (omega arith, omega arith, t.2))

pub few_within : (p : ℕ → Bool) (a n : ℕ) (bs : List ℕ) → IsRising bs → AreWithin p a n bs → length bs ≤ count_by p (range_with_len a n)
few_within p a n [] rise all = omega arith
few_within p a zero (b ∷ bs) rise all = let t = first_within p a 0 b bs all in absurd (omega arith)
few_within p a (suc n) (b ∷ bs) rise all =
    let head : count_by p (range_with_len a (suc n)) ≡ ones (p a) + count_by p (range_with_len (a + 1) n) = count_cons p a (range_with_len (a + 1) n) in
    let t = first_within p a (suc n) b bs all in
    split (b == a)
    (λ here.
    let e = same_number b a here in
    let one : ones (p a) ≡ 1 = ap ones (ap p (sym e) ∙ t.2) in
    let rest = few_within p (a + 1) n bs rise.1 (later p a n b bs rise t.0 (within_more p a (suc n) b bs all)) in
    omega arith)
    (λ other.
    let ne = other_number b a other in
    let rest = few_within p (a + 1) n (b ∷ bs) rise (all_later p a n b bs rise (omega arith) all) in
    omega arith)

pub covers : (p : ℕ → Bool) (a n : ℕ) (bs : List ℕ) → IsRising bs → AreWithin p a n bs → length bs ≡ count_by p (range_with_len a n)
    → (c : ℕ) → a ≤ c → c < a + n → p c ≡ true → list_any (λ b. b == c) bs ≡ true
covers p a zero bs rise all many c low high h = absurd (omega arith)
covers p a (suc n) [] rise all many c low high h =
    let head : count_by p (range_with_len a (suc n)) ≡ ones (p a) + count_by p (range_with_len (a + 1) n) = count_cons p a (range_with_len (a + 1) n) in
    split (a == c)
    (λ here. let e = same_number a c here in let one : ones (p a) ≡ 1 = ap ones (ap p e ∙ h) in absurd (omega arith))
    (λ other.
    let ne = other_number a c other in
    let none : 0 ≡ count_by p (range_with_len (a + 1) n) = omega arith in
    covers p (a + 1) n [] tt (λ d e. absurd (no e)) none c (omega arith) (omega arith) h)
covers p a (suc n) (b ∷ bs) rise all many c low high h =
    let head : count_by p (range_with_len a (suc n)) ≡ ones (p a) + count_by p (range_with_len (a + 1) n) = count_cons p a (range_with_len (a + 1) n) in
    let t = first_within p a (suc n) b bs all in
    split (b == a)
    (λ here.
    let e = same_number b a here in
    let one : ones (p a) ≡ 1 = ap ones (ap p (sym e) ∙ t.2) in
    split (b == c) (λ is. or_left (b == c) (list_any (λ x. x == c) bs) is)
    (λ other.
    let ne = other_number b c other in
    or_right (b == c) (list_any (λ x. x == c) bs)
    (covers p (a + 1) n bs rise.1 (later p a n b bs rise t.0 (within_more p a (suc n) b bs all)) (omega arith) c (omega arith) (omega arith) h)))
    (λ other.
    let ne = other_number b a other in
    let after = all_later p a n b bs rise (omega arith) all in
    let few = few_within p (a + 1) n (b ∷ bs) rise after in
    split (a == c)
    (λ here. let e = same_number a c here in let one : ones (p a) ≡ 1 = ap ones (ap p e ∙ h) in absurd (omega arith))
    (λ apart.
    let ne' = other_number a c apart in
    let exact : length (b ∷ bs) ≡ count_by p (range_with_len (a + 1) n) = omega arith in
    covers p (a + 1) n (b ∷ bs) rise after exact c (omega arith) (omega arith) h))
