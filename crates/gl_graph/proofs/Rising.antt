-- Bounds that increase one after the other increase.
use Rattle.gl_graph.proofs.Words.{[], and-false, ap, arith, drop, drop_more, is_rising, length, List, list_all, nat_lt, refl, slice_index_or, sym, true, ℕ, ◌+◌}
use Rattle.gl_graph.proofs.Words.{◌<◌, ◌∙◌, ◌∷◌, ◌≡◌}

all_above : (a b : ℕ) (bs : List ℕ) → a < b → list_all (λ c. nat_lt b c) bs ≡ true → list_all (λ c. nat_lt a c) bs ≡ true
all_above a b [] low h = refl
all_above a b (c ∷ bs) low h = grind (arith, all_above a b bs low)

pub rising_skip : (a b : ℕ) (bs : List ℕ) → a < b → is_rising (a ∷ b ∷ bs) ≡ is_rising (b ∷ bs)
rising_skip a b bs low = grind (arith, all_above, and-false)

pub rising_step : (last : ℕ) (bs : List ℕ) (i : ℕ) → i < length bs → last < slice_index_or bs i 0
    → is_rising (slice_index_or bs i 0 ∷ drop (i + 1) bs) ≡ is_rising (last ∷ drop i bs)
rising_step last bs i low less = sym (ap (λ xs. is_rising (last ∷ xs)) (drop_more bs i 0 low) ∙ rising_skip last (slice_index_or bs i 0) (drop (i + 1) bs) less)
