-- A number of 128 bits in two words, and back.
use Rattle.std.proofs.Common.{
  ◌≡◌,
  ℕ,
  ◌+◌,
  ◌-◌,
  ◌*◌,
  ◌/◌,
  ◌%◌,
  ◌^◌,
  ◌<◌,
  ◌≤◌,
  Bool,
  ◌==◌,
  ⊎_elim,
  refl,
  sym,
  ap,
  ap₂,
  ◌∙◌,
  List,
  [],
  ◌∷◌,
  length,
  get_or,
  mod-lt,
  arith,
}
use Rattle.std.proofs.lemmas.Nat.{div-add-mod'}
use Rattle.std.proofs.lemmas.Nat.Bits.{bit_at_cat_low, bit_at_cat_high}
use Rattle.std.proofs.lemmas.List.{get_or_past}
use Rattle.std.proofs.lemmas.Bool.{cases_lt}
use Rattle.gl_slots.specs.Bits.{in_bits, bits_below}
use Rattle.gl_slots.specs.Words.{in_words}
use Rattle.gl_slots.specs.Slots.{bits_of, has_bit, words_of}
use Rattle.gl_slots.proofs.BitLemmas.{in_bits-zero, in_bits-above, in_bits-bits_below, bits_below-lt, same_slots_below}
use Rattle.gl_slots.proofs.SlotLemmas.{bits_of-is, bits_of-same}

-- a number made of two words has the bits of both
pub in_words-two : (ws : List ℕ) (low high u : ℕ) → length ws ≡ 2 → get_or ws 0 0 ≡ low → get_or ws 1 0 ≡ high → low < 2 ^ 64 → high < 2 ^ 64
    → in_words ws u ≡ in_bits (high * 2 ^ 64 + low) u
in_words-two ws low high u two is_low is_high fits_low fits_high = ⊎_elim first (λ le. ⊎_elim (second le) past (cases_lt u 128)) (cases_lt u 64)
  where
    first : u < 64 → in_words ws u ≡ in_bits (high * 2 ^ 64 + low) u
    first lt =
        let d : u / 64 ≡ 0 = omega arith in
        let m : u % 64 ≡ u = omega arith in
        ap (λ w. in_bits (get_or ws w 0) (u % 64)) d
        ∙ ap (λ n. in_bits n (u % 64)) is_low
        ∙ ap (in_bits low) m
        ∙ sym (ap (λ n. n == 1) (bit_at_cat_low high 64 low u lt))

    second : 64 ≤ u → u < 128 → in_words ws u ≡ in_bits (high * 2 ^ 64 + low) u
    second le lt =
        let d : u / 64 ≡ 1 = omega arith in
        let m : u % 64 ≡ u - 64 = omega arith in
        ap (λ w. in_bits (get_or ws w 0) (u % 64)) d
        ∙ ap (λ n. in_bits n (u % 64)) is_high
        ∙ ap (in_bits high) m
        ∙ sym (ap (λ n. n == 1) (bit_at_cat_high high 64 low u fits_low le))

    past : 128 ≤ u → in_words ws u ≡ in_bits (high * 2 ^ 64 + low) u
    past le =
        ap (λ n. in_bits n (u % 64)) (get_or_past ws (u / 64) 0 (omega arith))
        ∙ in_bits-zero (u % 64)
        ∙ sym (in_bits-above (high * 2 ^ 64 + low) 128 u (omega arith) le)

-- the words of a number below 2 ^ 128

abbrev pub halves : ℕ → List ℕ
halves n = n % 2 ^ 64 ∷ n / 2 ^ 64 ∷ []

pub in_words-halves : (n u : ℕ) → n < 2 ^ 128 → in_words (halves n) u ≡ has_bit n u
in_words-halves n u small =
    in_words-two (halves n) (n % 2 ^ 64) (n / 2 ^ 64) u refl refl refl (mod-lt n (omega arith)) (omega arith) ∙ ap (λ m. in_bits m u) (div-add-mod' n (2 ^ 64))

-- a number below 2 ^ n is the one of its bits
bits_below-is : (n set : ℕ) (member : ℕ → Bool) → set < 2 ^ n → ((u : ℕ) → u < n → in_bits set u ≡ member u) → set ≡ bits_below n member
bits_below-is n set member small same =
    same_slots_below n set (bits_below n member) small (bits_below-lt n member) (λ u low. same u low ∙ sym (in_bits-bits_below n member u low))

pub halves-words_of : (n : ℕ) → n < 2 ^ 128 → halves n ≡ words_of (has_bit n)
unfolding words_of
halves-words_of n small =
    ap₂ (λ a b. a ∷ b ∷ [])
    (bits_below-is 64 (n % 2 ^ 64) (has_bit n) (mod-lt n (omega arith)) lower)
    (bits_below-is 64 (n / 2 ^ 64) (λ u. has_bit n (64 + u)) (omega arith) upper)
  where
    lower : (u : ℕ) → u < 64 → in_bits (n % 2 ^ 64) u ≡ has_bit n u
    lower u low =
        sym
        (ap (λ m. in_bits m u) (sym (div-add-mod' n (2 ^ 64)))
        ∙ ap (λ b. b == 1) (bit_at_cat_low (n / 2 ^ 64) 64 (n % 2 ^ 64) u low))

    upper : (u : ℕ) → u < 64 → in_bits (n / 2 ^ 64) u ≡ has_bit n (64 + u)
    upper u low =
        let e : 64 + u - 64 ≡ u = omega arith in
        sym
        (ap (λ m. in_bits m (64 + u)) (sym (div-add-mod' n (2 ^ 64)))
        ∙ ap (λ b. b == 1) (bit_at_cat_high (n / 2 ^ 64) 64 (n % 2 ^ 64) (64 + u) (mod-lt n (omega arith)) (omega arith))
        ∙ ap (in_bits (n / 2 ^ 64)) e)

pub halves-back : (n : ℕ) → n < 2 ^ 128 → bits_of (in_words (halves n)) ≡ n
halves-back n small = bits_of-same (in_words (halves n)) (has_bit n) (λ u low. in_words-halves n u small) ∙ sym (bits_of-is n small)

-- the number of two words
module _ (ws : List ℕ) (low high : ℕ) (two : length ws ≡ 2) (is_low : get_or ws 0 0 ≡ low) (is_high : get_or ws 1 0 ≡ high) (fits_low : low < 2 ^ 64)
    (fits_high : high < 2 ^ 64) where
  abbrev joined : ℕ
  joined = 2 ^ 64 * high + low

  pub joined-shows : (u : ℕ) → has_bit joined u ≡ in_words ws u
  joined-shows u =
      let e : joined ≡ high * 2 ^ 64 + low = omega arith in
      ap (λ n. in_bits n u) e ∙ sym (in_words-two ws low high u two is_low is_high fits_low fits_high)

  pub joined-is : joined ≡ bits_of (in_words ws)
  joined-is = bits_of-is joined (omega arith) ∙ bits_of-same (has_bit joined) (in_words ws) (λ u low. joined-shows u)
