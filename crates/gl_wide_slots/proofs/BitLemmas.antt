-- Bits of numbers: union, intersection, one bit more or less, the lowest bit.
use Rattle.std.proofs.Common.{◌%◌, ◌&&◌, ◌*◌, ◌+◌, ◌-◌, ◌/◌, ◌<◌, ◌==◌, ◌^◌, ◌||◌, ◌∙◌, ◌≡◌, ◌≢◌, ap, arith, bit_and, bit_or, Bool, cond, false, not, pow-suc}
use Rattle.std.proofs.Common.{suc, sym, true, zero, ℕ}
use Rattle.std.specs.Int.{bit_at, bit_not, w64}
use Rattle.std.proofs.lemmas.Nat.{one_shl, pow_pos}
use Rattle.std.proofs.lemmas.Nat.Bits.{and_pow, bit_at-lt, bit_at-suc, bit_at-zero, bit_at_and, bit_at_clear_other, bit_at_clear_same, bit_at_lowest}
use Rattle.std.proofs.lemmas.Nat.Bits.{bit_at_not, bit_at_ones, bit_at_or, bit_at_set_other, bit_at_set_same, same_from_bits_below}
use Rattle.std.proofs.lemmas.Bool.Decides.{nat_tests}
use Rattle.gl_wide_slots.specs.Bits.{in_bits, bits_below}

pub in_bits-zero : (u : ℕ) → in_bits 0 u ≡ false
in_bits-zero u = let e = bit_at-zero u in grind (arith, nat_tests)

pub in_bits-or : (a b u : ℕ) → in_bits (bit_or a b) u ≡ (in_bits a u || in_bits b u)
in_bits-or a b u =
    let e = bit_at_or a b u in
    let x = bit_at-lt a u in
    let y = bit_at-lt b u in
    grind (arith, nat_tests)

pub in_bits-and : (a b u : ℕ) → in_bits (bit_and a b) u ≡ (in_bits a u && in_bits b u)
in_bits-and a b u =
    let e = bit_at_and a b u in
    let x = bit_at-lt a u in
    let y = bit_at-lt b u in
    grind (arith, nat_tests)

-- numbers with the same bits are equal
pub same_slots_below : (n a b : ℕ) → a < 2 ^ n → b < 2 ^ n → ((u : ℕ) → u < n → in_bits a u ≡ in_bits b u) → a ≡ b
same_slots_below n a b small_a small_b same = same_from_bits_below n a b small_a small_b each
  where
    each : (u : ℕ) → u < n → bit_at a u ≡ bit_at b u
    each u low =
        let e = same u low in
        let x = bit_at-lt a u in
        let y = bit_at-lt b u in
        grind (arith, nat_tests)

-- one more slot, one slot less

more : (set after k u : ℕ) → bit_at after k ≡ 1 → (u ≢ k → bit_at after u ≡ bit_at set u) → in_bits after u ≡ (in_bits set u || (u == k))
more set after k u same other = grind (arith, nat_tests)

less : (set after k u : ℕ) → bit_at after k ≡ 0 → (u ≢ k → bit_at after u ≡ bit_at set u) → in_bits after u ≡ (in_bits set u && not (u == k))
less set after k u same other = grind (arith, nat_tests)

-- what `set | 1 << k` and `set & !(1 << k)` compute
pub in_bits-set : (set k : ℕ) → k < 64 → (u : ℕ) → in_bits (bit_or set (1 * 2 ^ k % 2 ^ 64)) u ≡ (in_bits set u || (u == k))
in_bits-set set k low u = more set _ k u (bit_at_set_same w64 set k low) (bit_at_set_other w64 set k low u)

pub in_bits-clear : (set k : ℕ) → k < 64 → (u : ℕ) → u < 64 → in_bits (bit_and set (bit_not w64 (1 * 2 ^ k % 2 ^ 64))) u ≡ (in_bits set u && not (u == k))
in_bits-clear set k low u within = less set _ k u (bit_at_clear_same w64 set k low) (bit_at_clear_other w64 set k low u within)

-- `u64::MAX` has every slot
pub in_bits-ones : (k u : ℕ) → u < k → in_bits (2 ^ k - 1) u ≡ true
in_bits-ones k u low = ap (λ x. x == 1) (bit_at_ones k u low)

-- what `set & (1 << k) != 0` tests
pub in_bits-test : (set k : ℕ) → k < 64 → not (bit_and set (1 * 2 ^ k % 2 ^ 64) == 0) ≡ in_bits set k
in_bits-test set k low =
    ap (λ p. not (bit_and set p == 0)) (one_shl k 64 low)
    ∙ ap (λ n. not (n == 0)) (and_pow set k)
    ∙ by (bit_at set k) (2 ^ k) (bit_at-lt set k) (pow_pos k)
  where
    by : (b p : ℕ) → b < 2 → 0 < p → not (b * p == 0) ≡ (b == 1)
    by zero p small above = let e : 0 * p ≡ 0 = omega arith in ap (λ n. not (n == 0)) e
    by (suc zero) p small above = let ne : 1 * p ≢ 0 = omega arith in grind (arith, nat_tests)
    by (suc (suc b)) p small above = absurd (omega arith)

-- what `!set` computes
pub in_bits-not : (set u : ℕ) → set < 2 ^ 64 → u < 64 → in_bits (bit_not w64 set) u ≡ not (in_bits set u)
in_bits-not set u small low =
    let e = bit_at_not w64 set u small low in
    let x = bit_at-lt set u in
    grind (arith, nat_tests)

-- the number of a test

halved : (b : Bool) (x : ℕ) → (cond b 1 0 + 2 * x) / 2 ≡ x
halved true x = omega arith
halved false x = omega arith

odd : (b : Bool) (x : ℕ) → ((cond b 1 0 + 2 * x) % 2 == 1) ≡ b
odd true x = let e : (1 + 2 * x) % 2 ≡ 1 = omega arith in ap (λ n. n == 1) e
odd false x = let e : (0 + 2 * x) % 2 ≡ 0 = omega arith in ap (λ n. n == 1) e

-- below n the bits are those that pass
pub in_bits-bits_below : (n : ℕ) (member : ℕ → Bool) (u : ℕ) → u < n → in_bits (bits_below n member) u ≡ member u
in_bits-bits_below zero member u low = absurd (omega arith)
in_bits-bits_below (suc n) member zero low =
    ap (λ x. x == 1) (bit_at_lowest (bits_below (suc n) member)) ∙ odd (member 0) (bits_below n (λ u. member (suc u)))
in_bits-bits_below (suc n) member (suc u) low =
    ap (λ x. x == 1) (bit_at-suc (bits_below (suc n) member) u ∙ ap (λ m. bit_at m u) (halved (member 0) (bits_below n (λ u. member (suc u)))))
    ∙ in_bits-bits_below n (λ u. member (suc u)) u (omega arith)

pub bits_below-lt : (n : ℕ) (member : ℕ → Bool) → bits_below n member < 2 ^ n
bits_below-lt zero member = omega arith
bits_below-lt (suc n) member = by (member 0) (bits_below n (λ u. member (suc u))) (bits_below-lt n (λ u. member (suc u)))
  where
    by : (b : Bool) (x : ℕ) → x < 2 ^ n → cond b 1 0 + 2 * x < 2 ^ suc n
    by true x h = rw pow-suc (omega arith)
    by false x h = rw pow-suc (omega arith)

-- a number below 2 ^ n is the one of its bits
pub bits_below-is : (n set : ℕ) (member : ℕ → Bool) → set < 2 ^ n → ((u : ℕ) → u < n → in_bits set u ≡ member u) → set ≡ bits_below n member
bits_below-is n set member small same =
    same_slots_below n set (bits_below n member) small (bits_below-lt n member) (λ u low. same u low ∙ sym (in_bits-bits_below n member u low))
