-- Tests of every slot below a limit, as facts on every slot.
use Rattle.gl_header.proofs.Words.{◌+◌, ◌<◌, ◌==◌, ◌∙◌, ◌≡◌, ◌≢◌, ◌≤◌, ◌⊎◌, ⊎_elim, and_both, ap, arith, Bool, cases_eq, false, list_all, nat_tests}
use Rattle.gl_header.proofs.Words.{range_with_len, refl, split, suc, sym, true, zero, ℕ}

-- tests that pass together are equal
pub equal_tests : (a b : Bool) → (a ≡ true → b ≡ true) → (b ≡ true → a ≡ true) → a ≡ b
equal_tests true b f g = sym (f refl)
equal_tests false true f g = g refl
equal_tests false false f g = refl

pub differ : (t u : ℕ) → (t == u) ≡ false → u ≢ t
differ t u h e = grind (arith, nat_tests)

pub differ-false : (t u : ℕ) → u ≢ t → (t == u) ≡ false
differ-false t u h = grind (arith, nat_tests)

pub below_or_not : (a b : ℕ) → (a < b) ⊎ (b ≤ a)
below_or_not a b = search (arith)

-- a test of a range, as a fact on each of its numbers, both ways

pub range-each : (p : ℕ → Bool) (k n : ℕ) → list_all p (range_with_len k n) ≡ true → (u : ℕ) → k ≤ u → u < k + n → p u ≡ true
range-each p k zero h u l m = absurd (omega arith)
range-each p k (suc n) h u l m =
    let b = and_both _ _ h in
    ⊎_elim (λ e. ap p e ∙ b.0) (λ ne. range-each p (k + 1) n b.1 u (omega arith) (omega arith)) (cases_eq u k)

pub range-from_each : (p : ℕ → Bool) (k n : ℕ) → ((u : ℕ) → k ≤ u → u < k + n → p u ≡ true) → list_all p (range_with_len k n) ≡ true
range-from_each p k zero h = refl
range-from_each p k (suc n) h =
    let here : p k ≡ true = h k (omega arith) (omega arith) in
    let rest : list_all p (range_with_len (k + 1) n) ≡ true = range-from_each p (k + 1) n (λ u l m. h u (omega arith) (omega arith)) in
    rw (here, rest) refl

-- a range whose numbers do not all pass has one that does not
pub range-fails : (p : ℕ → Bool) (k n : ℕ) → list_all p (range_with_len k n) ≡ false → (u : ℕ) × (p u ≡ false)
range-fails p k zero h = cc
range-fails p k (suc n) h = split (p k) (λ e. range-fails p (k + 1) n (grind arith)) (λ e. (k, e))
