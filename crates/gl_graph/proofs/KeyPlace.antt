-- The place of a key among increasing bounds.
use Rattle.gl_graph.proofs.Words.{[], and_both, ap, arith, cond, false, interval_place, IsRising, length, List, list_all, nat_le, nat_lt, nat_tests}
use Rattle.gl_graph.proofs.Words.{slice_index_or, suc, sum_by-cons, true, zero, ℕ, ◌+◌, ◌<◌, ◌∙◌, ◌∷◌, ◌≡◌, ◌≤◌}

above_all : (b : ℕ) (bs : List ℕ) (j : ℕ) → list_all (λ c. nat_lt b c) bs ≡ true → j < length bs → b < slice_index_or bs j 0
above_all b [] j h low = absurd (omega arith)
above_all b (c ∷ bs) zero h low = let t = (and_both (nat_lt b c) _ h).0 in grind (arith, nat_tests)
above_all b (c ∷ bs) (suc j) h low = above_all b bs j (and_both (nat_lt b c) _ h).1 (omega arith)

pub rising_at : (bs : List ℕ) (i j : ℕ) → IsRising bs → i < j → j < length bs → slice_index_or bs i 0 < slice_index_or bs j 0
rising_at [] i j h low high = absurd (omega arith)
rising_at (b ∷ bs) zero zero h low high = absurd (omega arith)
rising_at (b ∷ bs) zero (suc j) h low high = above_all b bs j h.0 (omega arith)
rising_at (b ∷ bs) (suc i) zero h low high = absurd (omega arith)
rising_at (b ∷ bs) (suc i) (suc j) h low high = rising_at bs i j h.1 (omega arith) (omega arith)

-- increasing numbers, one not before another
pub not_below : (xs : List ℕ) (i j : ℕ) → IsRising xs → i ≤ j → j < length xs → slice_index_or xs i 0 ≤ slice_index_or xs j 0
not_below xs i j rising le low = grind (arith, rising_at)

-- not above the key before place k, above it from there on: k bounds are not above it
pub place_counted : (bs : List ℕ) (key k : ℕ) → k ≤ length bs → ((j : ℕ) → j < k → slice_index_or bs j 0 ≤ key)
    → ((j : ℕ) → k ≤ j → j < length bs → key < slice_index_or bs j 0) → k ≡ interval_place bs key
place_counted [] key k low begins ends = omega arith
place_counted (b ∷ bs) key zero low begins ends =
    let above : key < b = ends 0 (omega arith) (omega arith) in
    let test : nat_le b key ≡ false = grind (arith, nat_tests) in
    let rest = place_counted bs key 0 (omega arith) (λ j h. absurd (omega arith)) (λ j h l. ends (suc j) (omega arith) (omega arith)) in
    let here : interval_place (b ∷ bs) key ≡ 0 + interval_place bs key =
    sum_by-cons (λ x. cond (nat_le x key) 1 0) b bs ∙ ap (λ t. cond t 1 0 + interval_place bs key) test in
    omega arith
place_counted (b ∷ bs) key (suc k) low begins ends =
    let below : b ≤ key = begins 0 (omega arith) in
    let test : nat_le b key ≡ true = grind (arith, nat_tests) in
    let rest = place_counted bs key k (omega arith) (λ j h. begins (suc j) (omega arith)) (λ j h l. ends (suc j) (omega arith) (omega arith)) in
    let here : interval_place (b ∷ bs) key ≡ 1 + interval_place bs key =
    sum_by-cons (λ x. cond (nat_le x key) 1 0) b bs ∙ ap (λ t. cond t 1 0 + interval_place bs key) test in
    omega arith
