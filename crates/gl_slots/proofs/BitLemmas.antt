-- Bits of numbers: union, intersection, one bit more or less, the lowest bit.
use Rattle.std.proofs.Common.{◌≡◌, ◌≢◌, ℕ, zero, suc, ◌+◌, ◌-◌, ◌*◌, ◌/◌, ◌%◌, ◌^◌, ◌<◌, ◌≤◌, Bool, true, false, cond, not, min, ltb, ◌&&◌, ◌||◌}
use Rattle.std.proofs.Common.{◌==◌, bit_and, bit_or, ◌⊎◌, ⊎_elim, inl, inr, sym, ap, ◌∙◌, pow-suc, mod-lt, arith}
use Rattle.std.specs.Int.{bit_at, bit_not, w128}
use Rattle.std.proofs.Math.Pow.{pow-lt}
use Rattle.std.proofs.lemmas.Nat.{and_le_l, div-add-mod', one_shl, pow_pos}
use Rattle.std.proofs.lemmas.Nat.Bits.{bit_at-suc, bit_at_lowest, bit_at_not, bit_at-zero, bit_at-lt, bit_at_and, bit_at_or, bit_at_above}
use Rattle.std.proofs.lemmas.Nat.Bits.{bit_at_set_same, bit_at_set_other, bit_at_clear_same, bit_at_clear_other, bit_at_ones, bit_at_ones_above}
use Rattle.std.proofs.lemmas.Nat.Bits.{bit_at-pow_same, bit_at-pow_other, bit_at_cat_low, bit_at_cat_high, and_pow, same_from_bits}
use Rattle.std.proofs.lemmas.Nat.Bits.{same_from_bits_below}
use Rattle.std.proofs.lemmas.Bool.{cases_lt, cases_order}
use Rattle.std.proofs.lemmas.Bool.Decides.{nat_tests}
use Rattle.gl_slots.specs.Bits.{in_bits, bits_below}

pub in_bits-zero : (u : ℕ) → in_bits 0 u ≡ false
in_bits-zero u = let e = bit_at-zero u in grind (arith, nat_tests)

-- a set of slots below n has no slot from n on
pub in_bits-above : (set n u : ℕ) → set < 2 ^ n → n ≤ u → in_bits set u ≡ false
in_bits-above set n u small above = let e = bit_at_above set n u small above in grind (arith, nat_tests)

pub in_bits-or : (a b u : ℕ) → in_bits (bit_or a b) u ≡ (in_bits a u || in_bits b u)
in_bits-or a b u =
    let e = bit_at_or a b u in
    let x = bit_at-lt a u in
    let y = bit_at-lt b u in
    grind (arith, nat_tests)

pub in_bits-and : (a b u : ℕ) → in_bits (bit_and a b) u ≡ (in_bits a u && in_bits b u)
in_bits-and a b u =
    let e = bit_at_and a b u in
    let x = bit_at-lt a u in
    let y = bit_at-lt b u in
    grind (arith, nat_tests)

-- sets with the same slots are the same number
pub same_slots : (a b : ℕ) → ((u : ℕ) → in_bits a u ≡ in_bits b u) → a ≡ b
same_slots a b same = same_from_bits a b each
  where
    each : (u : ℕ) → bit_at a u ≡ bit_at b u
    each u =
        let e = same u in
        let x = bit_at-lt a u in
        let y = bit_at-lt b u in
        grind (arith, nat_tests)

pub same_slots_below : (n a b : ℕ) → a < 2 ^ n → b < 2 ^ n → ((u : ℕ) → u < n → in_bits a u ≡ in_bits b u) → a ≡ b
same_slots_below n a b small_a small_b same = same_from_bits_below n a b small_a small_b each
  where
    each : (u : ℕ) → u < n → bit_at a u ≡ bit_at b u
    each u low =
        let e = same u low in
        let x = bit_at-lt a u in
        let y = bit_at-lt b u in
        grind (arith, nat_tests)

-- a set without slots is 0
pub no_bit-zero : (set : ℕ) → ((u : ℕ) → in_bits set u ≡ false) → set ≡ 0
no_bit-zero set none = same_slots set 0 (λ u. none u ∙ sym (in_bits-zero u))

-- one more slot, one slot less

more : (set after k u : ℕ) → bit_at after k ≡ 1 → (u ≢ k → bit_at after u ≡ bit_at set u) → in_bits after u ≡ (in_bits set u || (u == k))
more set after k u same other = grind (arith, nat_tests)

less : (set after k u : ℕ) → bit_at after k ≡ 0 → (u ≢ k → bit_at after u ≡ bit_at set u) → in_bits after u ≡ (in_bits set u && not (u == k))
less set after k u same other = grind (arith, nat_tests)

-- what `set | 1 << k` and `set & !(1 << k)` compute
pub in_bits-set : (set k : ℕ) → k < 128 → (u : ℕ) → in_bits (bit_or set (1 * 2 ^ k % 2 ^ 128)) u ≡ (in_bits set u || (u == k))
in_bits-set set k low u = more set _ k u (bit_at_set_same w128 set k low) (bit_at_set_other w128 set k low u)

pub in_bits-clear : (set k : ℕ) → set < 2 ^ 128 → k < 128 → (u : ℕ)
    → in_bits (bit_and set (bit_not w128 (1 * 2 ^ k % 2 ^ 128))) u ≡ (in_bits set u && not (u == k))
in_bits-clear set k small low u = less set cleared k u (bit_at_clear_same w128 set k low)
    (⊎_elim (λ within. bit_at_clear_other w128 set k low u within) (λ above ne. outside above) (cases_lt u 128))
  where
    cleared : ℕ
    cleared = bit_and set (bit_not w128 (1 * 2 ^ k % 2 ^ 128))

    least : (x y z : ℕ) → x ≡ min y z → y ≡ 0 → x ≡ y
    least x y z both none = omega arith

    outside : 128 ≤ u → bit_at cleared u ≡ bit_at set u
    outside above =
        let both = bit_at_and set (bit_not w128 (1 * 2 ^ k % 2 ^ 128)) u in
        let none = bit_at_above set 128 u small above in
        least _ _ _ both none

-- removing a slot from a set makes a lesser number
pub clear-lt : (set k : ℕ) → k < 128 → in_bits set k ≡ true → bit_and set (bit_not w128 (1 * 2 ^ k % 2 ^ 128)) < set
clear-lt set k low has = by _ (and_le_l set _) (bit_at_clear_same w128 set k low)
  where
    by : (after : ℕ) → after ≤ set → bit_at after k ≡ 0 → after < set
    by after le gone = let ne : after ≢ set = (λ e. clash (ap (λ n. bit_at n k) e)) in omega arith
      where
        clash : bit_at after k ≡ bit_at set k → ⊥
        clash e = grind (arith, nat_tests)

-- `u128::MAX` has every slot
pub in_bits-ones : (k u : ℕ) → u < k → in_bits (2 ^ k - 1) u ≡ true
in_bits-ones k u low = ap (λ x. x == 1) (bit_at_ones k u low)

-- what `set & (1 << k) != 0` tests
pub in_bits-test : (set k : ℕ) → k < 128 → not (bit_and set (1 * 2 ^ k % 2 ^ 128) == 0) ≡ in_bits set k
in_bits-test set k low = ap (λ p. not (bit_and set p == 0)) (one_shl k 128 low) ∙ ap (λ n. not (n == 0)) (and_pow set k)
    ∙ by (bit_at set k) (2 ^ k) (bit_at-lt set k) (pow_pos k)
  where
    by : (b p : ℕ) → b < 2 → 0 < p → not (b * p == 0) ≡ (b == 1)
    by zero p small above = let e : 0 * p ≡ 0 = omega arith in ap (λ n. not (n == 0)) e
    by (suc zero) p small above = let ne : 1 * p ≢ 0 = omega arith in grind (arith, nat_tests)
    by (suc (suc b)) p small above = absurd (omega arith)

-- `set & (set - 1)`, if k is the lowest slot of the set
module _ (set k : ℕ) (has : in_bits set k ≡ true) (none : (u : ℕ) → u < k → in_bits set u ≡ false) where
  high : ℕ
  high = set / 2 ^ suc k

  low : ℕ
  low = set % 2 ^ suc k

  parts : set ≡ high * 2 ^ suc k + low
  unfolding high low
  parts = sym (div-add-mod' set (2 ^ suc k))

  low-lt : low < 2 ^ suc k
  unfolding low
  low-lt = mod-lt set (pow_pos (suc k))

  low-pow : low ≡ 2 ^ k
  low-pow = same_slots_below (suc k) low (2 ^ k) low-lt (pow-lt (omega arith)) each
    where
      at_low : (u : ℕ) → u < suc k → in_bits low u ≡ in_bits set u
      at_low u inside = ap (λ n. n == 1) (sym (ap (λ n. bit_at n u) parts ∙ bit_at_cat_low high (suc k) low u inside))

      each : (u : ℕ) → u < suc k → in_bits low u ≡ in_bits (2 ^ k) u
      each u inside =
          at_low u inside
          ∙ ⊎_elim
          (λ below. none u below ∙ sym (ap (λ n. n == 1) (bit_at-pow_other k u (omega arith))))
          (λ is. ap (in_bits set) is ∙ has ∙ sym (ap (in_bits (2 ^ k)) is ∙ ap (λ n. n == 1) (bit_at-pow_same k)))
          (at_end u inside)
        where
          at_end : (v : ℕ) → v < suc k → (v < k) ⊎ (v ≡ k)
          at_end v inside' = grind arith

  less_one : set - 1 ≡ high * 2 ^ suc k + (2 ^ k - 1)
  less_one = let above = pow_pos k in omega (arith, parts, low-pow)

  gone : in_bits (set - 1) k ≡ false
  gone = ap (λ n. n == 1) (ap (λ n. bit_at n k) less_one ∙ bit_at_cat_low high (suc k) (2 ^ k - 1) k (omega arith) ∙ bit_at_ones_above k k (omega arith))

  kept : (u : ℕ) → k < u → in_bits (set - 1) u ≡ in_bits set u
  kept u above =
      ap (λ n. n == 1)
      (ap (λ n. bit_at n u) less_one
      ∙ bit_at_cat_high high (suc k) (2 ^ k - 1) u (let larger : 2 ^ k < 2 ^ suc k = pow-lt (omega arith) in omega arith) above
      ∙ sym (ap (λ n. bit_at n u) parts ∙ bit_at_cat_high high (suc k) low u low-lt above))

  pub in_bits-rest : (u : ℕ) → in_bits (bit_and set (set - 1)) u ≡ (in_bits set u && not (u == k))
  in_bits-rest u = in_bits-and set (set - 1) u ∙ by (cases_order u k)
    where
      absent : (a b c : Bool) → a ≡ false → (a && b) ≡ (a && c)
      absent a b c e = grind (arith, nat_tests)

      at : (a b : Bool) → b ≡ false → u ≡ k → (a && b) ≡ (a && not (u == k))
      at a b e is = grind (arith, nat_tests)

      beyond : (a b : Bool) → b ≡ a → k < u → (a && b) ≡ (a && not (u == k))
      beyond a b e above = grind (arith, nat_tests)

      by : (u ≡ k) ⊎ ((u < k) ⊎ (k < u)) → (in_bits set u && in_bits (set - 1) u) ≡ (in_bits set u && not (u == k))
      by (inl is) = at _ _ (ap (in_bits (set - 1)) is ∙ gone) is
      by (inr (inl below)) = absent _ _ _ (none u below)
      by (inr (inr above)) = beyond _ _ (kept u above) above

-- what `!set` computes
pub in_bits-not : (set u : ℕ) → set < 2 ^ 128 → in_bits (bit_not w128 set) u ≡ (ltb u 128 && not (in_bits set u))
in_bits-not set u small = ⊎_elim inside outside (cases_lt u 128)
  where
    inside : u < 128 → in_bits (bit_not w128 set) u ≡ (ltb u 128 && not (in_bits set u))
    inside low =
        let e = bit_at_not w128 set u small low in
        let x = bit_at-lt set u in
        grind (arith, nat_tests)

    outside : 128 ≤ u → in_bits (bit_not w128 set) u ≡ (ltb u 128 && not (in_bits set u))
    outside above =
        let e = in_bits-above (bit_not w128 set) 128 u (omega arith) above in
        grind (arith, nat_tests)

-- the number of a test

halved : (b : Bool) (x : ℕ) → (cond b 1 0 + 2 * x) / 2 ≡ x
halved true x = omega arith
halved false x = omega arith

odd : (b : Bool) (x : ℕ) → ((cond b 1 0 + 2 * x) % 2 == 1) ≡ b
odd true x = let e : (1 + 2 * x) % 2 ≡ 1 = omega arith in ap (λ n. n == 1) e
odd false x = let e : (0 + 2 * x) % 2 ≡ 0 = omega arith in ap (λ n. n == 1) e

-- below n the bits are those that pass
pub in_bits-bits_below : (n : ℕ) (member : ℕ → Bool) (u : ℕ) → u < n → in_bits (bits_below n member) u ≡ member u
in_bits-bits_below zero member u low = absurd (omega arith)
in_bits-bits_below (suc n) member zero low =
    ap (λ x. x == 1) (bit_at_lowest (bits_below (suc n) member)) ∙ odd (member 0) (bits_below n (λ u. member (suc u)))
in_bits-bits_below (suc n) member (suc u) low =
    ap (λ x. x == 1) (bit_at-suc (bits_below (suc n) member) u ∙ ap (λ m. bit_at m u) (halved (member 0) (bits_below n (λ u. member (suc u)))))
    ∙ in_bits-bits_below n (λ u. member (suc u)) u (omega arith)

pub bits_below-lt : (n : ℕ) (member : ℕ → Bool) → bits_below n member < 2 ^ n
bits_below-lt zero member = omega arith
bits_below-lt (suc n) member = by (member 0) (bits_below n (λ u. member (suc u))) (bits_below-lt n (λ u. member (suc u)))
  where
    by : (b : Bool) (x : ℕ) → x < 2 ^ n → cond b 1 0 + 2 * x < 2 ^ suc n
    by true x h = rw pow-suc (omega arith)
    by false x h = rw pow-suc (omega arith)
