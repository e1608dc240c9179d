-- Which waiters are ahead of which, read from the front.
use Rattle.gl_header.proofs.Words.{◌&&◌, ◌<◌, [], ◌∷◌, ◌≡◌, ap, ap₂, arith, false, is_ahead, is_among_waiters, is_entry, is_waiter, length, List, list_all}
use Rattle.gl_header.proofs.Words.{most_slots, nat_tests, not, prefix_len, suc, take, true, Waiter, zero, ℕ}
use Rattle.std.proofs.Common.{get_or}

-- the first wait of t is at i
pub ahead-first : (q : List Waiter) (t u i : ℕ) (d : Waiter) → i < length q → (get_or q i d).0 ≡ t → is_among_waiters t (take i q) ≡ false
    → is_ahead q t u ≡ is_among_waiters u (take i q)
ahead-first q t u i d low at none =
    ap₂ (λ a (ws : List Waiter). a && is_among_waiters u ws) (there q i low at) (ap (λ n. take n q) (before q i low at none))
  where
    there : (q : List Waiter) (i : ℕ) → i < length q → (get_or q i d).0 ≡ t → is_among_waiters t q ≡ true
    there [] i low at = absurd (omega arith)
    there (w ∷ q) zero low at = grind (arith, nat_tests)
    there (w ∷ q) (suc i) low at = let r = there q i (omega arith) at in grind (arith, nat_tests)

    before : (q : List Waiter) (i : ℕ) → i < length q → (get_or q i d).0 ≡ t → is_among_waiters t (take i q) ≡ false
        → prefix_len (λ w. not (is_waiter t w)) q ≡ i
    before [] i low at none = absurd (omega arith)
    before (w ∷ q) zero low at none = grind (arith, nat_tests)
    before (w ∷ q) (suc i) low at none =
        let r = before q i (omega arith) at in grind (arith, nat_tests)
