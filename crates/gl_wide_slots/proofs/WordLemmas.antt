-- Bits of words: one bit more or less, union, intersection, the lowest bit.
use Rattle.std.proofs.Common.{◌%◌, ◌&&◌, ◌*◌, ◌+◌, ◌-◌, ◌/◌, ◌<◌, ◌==◌, [], ◌^◌, ◌||◌, ◌∙◌, ◌∷◌, ◌≡◌, ◌≢◌, ◌≤◌, ⊎_elim, ap, ap₂, arith, bit_and, bit_or, Bool}
use Rattle.std.proofs.Common.{false, get_or, IfNone, IfSome, is_some, IsTrue, length, List, mod-lt, None, not, Option, refl, replicate, set, Some, suc, sym}
use Rattle.std.proofs.Common.{true, zero, ℕ}
use Rattle.std.specs.Int.{bit_at, bit_not, trailing_zeros, w64}
use Rattle.std.proofs.lemmas.List.{get_or-set_same, get_or-set_other, get_or_past, get_or-replicate, length-replicate}
use Rattle.std.specs.List.{list_all}
use Rattle.std.proofs.lemmas.List.Folds.{list_all_at}
use Rattle.std.proofs.lemmas.Nat.Bits.{bit_at-trailing_zeros, bit_at_cat_low}
use Rattle.std.proofs.lemmas.Nat.{div-add-mod'}
use Rattle.std.proofs.lemmas.Bool.{cases_lt, cases_eq}
use Rattle.std.proofs.lemmas.Bool.Decides.{nat_tests}
use Rattle.gl_wide_slots.specs.Bits.{in_bits, bits_below}
use Rattle.gl_wide_slots.specs.Limit.{most_slots}
use Rattle.gl_wide_slots.specs.Words.{IsFirstWord, in_words, words_below}
use Rattle.gl_wide_slots.proofs.BitLemmas.{bits_below-is, bits_below-lt, in_bits-and, in_bits-bits_below, in_bits-clear, in_bits-not, in_bits-ones, in_bits-or}
use Rattle.gl_wide_slots.proofs.BitLemmas.{in_bits-set, in_bits-test, in_bits-zero, same_slots_below}

-- words that are 0 have no bit
pub in_words-none : (ws : List ℕ) (u : ℕ) → get_or ws (u / 64) 0 ≡ 0 → in_words ws u ≡ false
in_words-none ws u e = ap (λ n. in_bits n (u % 64)) e ∙ in_bits-zero (u % 64)

-- bits of both, bits that both have
pub in_words-or : (a b c : List ℕ) → ((w : ℕ) → get_or c w 0 ≡ bit_or (get_or a w 0) (get_or b w 0)) → (u : ℕ) → in_words c u ≡ (in_words a u || in_words b u)
in_words-or a b c each u = ap (λ n. in_bits n (u % 64)) (each (u / 64)) ∙ in_bits-or (get_or a (u / 64) 0) (get_or b (u / 64) 0) (u % 64)

pub in_words-and : (a b c : List ℕ) → ((w : ℕ) → get_or c w 0 ≡ bit_and (get_or a w 0) (get_or b w 0)) → (u : ℕ) → in_words c u ≡ (in_words a u && in_words b u)
in_words-and a b c each u = ap (λ n. in_bits n (u % 64)) (each (u / 64)) ∙ in_bits-and (get_or a (u / 64) 0) (get_or b (u / 64) 0) (u % 64)

-- slots of the same word are equal if their bits are
same-slot : (u k : ℕ) → u / 64 ≡ k / 64 → (u % 64 == k % 64) ≡ (u == k)
same-slot u k e = let a = div-add-mod' u 64 in let b = div-add-mod' k 64 in grind (arith, nat_tests)

other-slot : (u k : ℕ) → u / 64 ≢ k / 64 → (u == k) ≡ false
other-slot u k ne = let d : u ≢ k = (λ e. ne (ap (λ n. n / 64) e)) in grind (arith, nat_tests)

-- one word is written, in which one bit changes
changed : (f : Bool → Bool → Bool) → ((b : Bool) → f b false ≡ b) → (ws : List ℕ) (k n : ℕ) → k / 64 < length ws
    → ((v : ℕ) → v < 64 → in_bits n v ≡ f (in_bits (get_or ws (k / 64) 0) v) (v == k % 64)) → (u : ℕ)
    → in_words (set ws (k / 64) n) u ≡ f (in_words ws u) (u == k)
changed f rest ws k n low bits u = ⊎_elim here there (cases_eq (u / 64) (k / 64))
  where
    here : u / 64 ≡ k / 64 → in_words (set ws (k / 64) n) u ≡ f (in_words ws u) (u == k)
    here e =
        ap (λ w. in_bits (get_or (set ws (k / 64) n) w 0) (u % 64)) e
        ∙ ap (λ m. in_bits m (u % 64)) (get_or-set_same ws (k / 64) n 0 low)
        ∙ bits (u % 64) (mod-lt u (omega arith))
        ∙ ap (λ w. f (in_bits (get_or ws w 0) (u % 64)) (u % 64 == k % 64)) (sym e)
        ∙ ap (f (in_words ws u)) (same-slot u k e)

    there : u / 64 ≢ k / 64 → in_words (set ws (k / 64) n) u ≡ f (in_words ws u) (u == k)
    there ne =
        ap (λ m. in_bits m (u % 64)) (get_or-set_other ws (k / 64) (u / 64) n 0 ne)
        ∙ sym (rest (in_words ws u))
        ∙ ap (f (in_words ws u)) (sym (other-slot u k ne))

pub in_words-set : (ws : List ℕ) (k : ℕ) → k / 64 < length ws → (u : ℕ)
    → in_words (set ws (k / 64) (bit_or (get_or ws (k / 64) 0) (1 * 2 ^ (k % 64) % 2 ^ 64))) u ≡ (in_words ws u || (u == k))
in_words-set ws k low = changed (λ a b. a || b) (λ b. plain b) ws k _ low (λ v _. in_bits-set (get_or ws (k / 64) 0) (k % 64) (mod-lt k (omega arith)) v)
  where
    plain : (b : Bool) → (b || false) ≡ b
    plain b = grind arith

pub in_words-clear : (ws : List ℕ) (k : ℕ) → k / 64 < length ws → (u : ℕ)
    → in_words (set ws (k / 64) (bit_and (get_or ws (k / 64) 0) (bit_not w64 (1 * 2 ^ (k % 64) % 2 ^ 64)))) u ≡ (in_words ws u && not (u == k))
in_words-clear ws k low = changed (λ a b. a && not b) (λ b. plain b) ws k _ low (in_bits-clear (get_or ws (k / 64) 0) (k % 64) (mod-lt k (omega arith)))
  where
    plain : (b : Bool) → (b && not false) ≡ b
    plain b = grind arith

-- beyond the words there is no bit
pub in_words-past : (ws : List ℕ) (u : ℕ) → length ws ≤ u / 64 → in_words ws u ≡ false
in_words-past ws u past = in_words-none ws u (get_or_past ws (u / 64) 0 past)

pub in_words-test : (ws : List ℕ) (k : ℕ) → not (bit_and (get_or ws (k / 64) 0) (1 * 2 ^ (k % 64) % 2 ^ 64) == 0) ≡ in_words ws k
in_words-test ws k = in_bits-test (get_or ws (k / 64) 0) (k % 64) (mod-lt k (omega arith))

-- a clear bit where there are no words
pub absent : (ws : List ℕ) (k : ℕ) → in_words ws k ≡ false → (u : ℕ) → in_words ws u ≡ (in_words ws u && not (u == k))
absent ws k none u = ⊎_elim (λ is. at (in_words ws u) (ap (in_words ws) is ∙ none) is) (λ ne. other (in_words ws u) ne) (cases_eq u k)
  where
    at : (b : Bool) → b ≡ false → u ≡ k → b ≡ (b && not (u == k))
    at b e is = grind (arith, nat_tests)

    other : (b : Bool) → u ≢ k → b ≡ (b && not (u == k))
    other b ne = grind (arith, nat_tests)

-- words of ones have each bit
pub in_words-all : (n u : ℕ) → u / 64 < n → in_words (replicate n (2 ^ 64 - 1)) u ≡ true
in_words-all n u low = ap (λ m. in_bits m (u % 64)) (get_or-replicate n (u / 64) (2 ^ 64 - 1) 0 low) ∙ in_bits-ones 64 (u % 64) (mod-lt u (omega arith))

-- the place of bit b of word w
at_place : (ws : List ℕ) (w b : ℕ) → b < 64 → in_words ws (w * 64 + b) ≡ in_bits (get_or ws w 0) b
at_place ws w b low =
    let d : (w * 64 + b) / 64 ≡ w = omega arith in
    let m : (w * 64 + b) % 64 ≡ b = omega arith in
    ap (λ v. in_bits (get_or ws v 0) ((w * 64 + b) % 64)) d ∙ ap (in_bits (get_or ws w 0)) m

-- the lowest bit of the first word that has one
module _ (ws : List ℕ) (w : ℕ) (f : IsFirstWord ws w) where
  abbrev pub lowest : ℕ
  lowest = trailing_zeros w64 (get_or ws w 0)

  pub low : lowest < 64
  low = (bit_at-trailing_zeros w64 (get_or ws w 0) f.some f.fits).0

  at_lowest : bit_at (get_or ws w 0) lowest ≡ 1
  at_lowest = (bit_at-trailing_zeros w64 (get_or ws w 0) f.some f.fits).1

  below_lowest : (i : ℕ) → i < lowest → bit_at (get_or ws w 0) i ≡ 0
  below_lowest = (bit_at-trailing_zeros w64 (get_or ws w 0) f.some f.fits).2

  pub within_slots : w * 64 + lowest < most_slots
  within_slots = let a = low in let b = f.within in omega arith

  pub lowest_member : in_words ws (w * 64 + lowest) ≡ true
  lowest_member = at_place ws w lowest low ∙ ap (λ n. n == 1) at_lowest

  pub lowest_none_below : (u : ℕ) → u < w * 64 + lowest → in_words ws u ≡ false
  lowest_none_below u below = ⊎_elim before here (cases_lt (u / 64) w)
    where
      before : u / 64 < w → in_words ws u ≡ false
      before lt = in_words-none ws u (f.none_before (u / 64) lt)

      here : w ≤ u / 64 → in_words ws u ≡ false
      here le =
          let l = low in
          let e : u / 64 ≡ w = omega arith in
          let lt : u % 64 < lowest = omega arith in
          ap (λ v. in_bits (get_or ws v 0) (u % 64)) e ∙ ap (λ n. n == 1) (below_lowest (u % 64) lt)

-- what `first(words).is_none()` tests
pub none_first : (ws : List ℕ) (o : Option ℕ) (b : Bool) → IfSome o (IsFirstWord ws) → IfNone o ((w : ℕ) → get_or ws w 0 ≡ 0) → is_some o ≡ not b
    → IsTrue b → (u : ℕ) → in_words ws u ≡ false
none_first ws None b some none is e u = in_words-none ws u (none (u / 64))
none_first ws (Some w) b some none is e u = absurd (clash b is e)
  where
    clash : (b : Bool) → true ≡ not b → b ≡ true → ⊥
    clash b is e = grind arith

pub first_none : (ws : List ℕ) (o : Option ℕ) (b : Bool) → IfSome o (IsFirstWord ws) → IfNone o ((w : ℕ) → get_or ws w 0 ≡ 0) → is_some o ≡ not b
    → ((u : ℕ) → in_words ws u ≡ false) → IsTrue b
first_none ws None b some none is empty = set_of b is
  where
    set_of : (b : Bool) → false ≡ not b → b ≡ true
    set_of b is = grind arith
first_none ws (Some w) b some none is empty = absurd (clash (sym (lowest_member ws w some) ∙ empty (w * 64 + lowest ws w some)))
  where
    clash : true ≡ false → ⊥
    clash e = cc

-- a word without a bit below 64 is 0 modulo 2 ^ 64
low_part : (n v : ℕ) → v < 64 → in_bits (n % 2 ^ 64) v ≡ in_bits n v
low_part n v low = ap (λ x. x == 1) (sym (ap (λ m. bit_at m v) (sym (div-add-mod' n (2 ^ 64))) ∙ bit_at_cat_low (n / 2 ^ 64) 64 (n % 2 ^ 64) v low))

word-none : (n : ℕ) → ((v : ℕ) → v < 64 → in_bits n v ≡ false) → (n % 2 ^ 64 == 0) ≡ true
word-none n none =
    let e = same_slots_below 64 (n % 2 ^ 64) 0 (mod-lt n (omega arith)) (omega arith) (λ v low. low_part n v low ∙ none v low ∙ sym (in_bits-zero v)) in
    grind (arith, nat_tests)

none-word : (n : ℕ) → (n % 2 ^ 64 == 0) ≡ true → (v : ℕ) → v < 64 → in_bits n v ≡ false
none-word n e v low = let z : n % 2 ^ 64 ≡ 0 = zero_from (n % 2 ^ 64) e in sym (low_part n v low) ∙ ap (λ m. in_bits m v) z ∙ in_bits-zero v
  where
    zero_from : (m : ℕ) → (m == 0) ≡ true → m ≡ 0
    zero_from m e = grind (arith, nat_tests)

abbrev pub is_idle : ℕ → Bool
is_idle w = w % 2 ^ 64 == 0

-- all words are 0 if no bit is set
pub idle-none : (ws : List ℕ) → list_all is_idle ws ≡ true → (u : ℕ) → in_words ws u ≡ false
idle-none ws all u =
    ⊎_elim
    (λ inside. none-word (get_or ws (u / 64) 0) (at (u / 64) inside) (u % 64) (mod-lt u (omega arith)))
    (λ past. in_words-past ws u past)
    (cases_lt (u / 64) (length ws))
  where
    at : (i : ℕ) → i < length ws → is_idle (get_or ws i 0) ≡ true
    at i inside = by (is_idle (get_or ws i 0)) (list_all is_idle ws) (list_all_at is_idle ws i 0 inside) all
      where
        by : (b c : Bool) → (b ≡ false → c ≡ false) → c ≡ true → b ≡ true
        by b c fails all = grind arith

pub none-idle : (ws : List ℕ) → ((u : ℕ) → in_words ws u ≡ false) → list_all is_idle ws ≡ true
none-idle ws none = by ws (λ i. word-none (get_or ws i 0) (λ v low. sym (at_place ws i v low) ∙ none (i * 64 + v)))
  where
    by : (xs : List ℕ) → ((i : ℕ) → is_idle (get_or xs i 0) ≡ true) → list_all is_idle xs ≡ true
    by [] each = refl
    by (x ∷ xs) each = let h : is_idle x ≡ true = each 0 in let t : list_all is_idle xs ≡ true = by xs (λ i. each (suc i)) in grind arith

-- words of zeros have no bit
pub in_words-zeros : (n u : ℕ) → in_words (replicate n 0) u ≡ false
in_words-zeros n u = in_words-none (replicate n 0) u (each n (u / 64) 0)
  where
    each : (n i d : ℕ) → get_or (replicate n d) i d ≡ d
    each n i d =
        ⊎_elim
        (λ inside. get_or-replicate n i d d inside)
        (λ past. get_or_past (replicate n d) i d (let e = length-replicate n d in omega arith))
        (cases_lt i n)

-- what `!word` computes, word by word
pub in_words-not : (n : ℕ) (a b : List ℕ) → ((w : ℕ) → w < n → get_or b w 0 ≡ bit_not w64 (get_or a w 0)) → ((w : ℕ) → w < n → get_or a w 0 < 2 ^ 64)
    → (u : ℕ) → u / 64 < n → in_words b u ≡ not (in_words a u)
in_words-not n a b turned fits u low =
    ap (λ m. in_bits m (u % 64)) (turned (u / 64) low)
    ∙ in_bits-not (get_or a (u / 64) 0) (u % 64) (fits (u / 64) low) (mod-lt u (omega arith))

-- the words of a test

in_words-first : (x : ℕ) (xs : List ℕ) (u : ℕ) → u < 64 → in_words (x ∷ xs) u ≡ in_bits x u
in_words-first x xs u low =
    let d : u / 64 ≡ 0 = omega arith in
    let m : u % 64 ≡ u = omega arith in
    ap (λ w. in_bits (get_or (x ∷ xs) w 0) (u % 64)) d ∙ ap (in_bits x) m

in_words-rest : (x : ℕ) (xs : List ℕ) (u : ℕ) → in_words (x ∷ xs) (64 + u) ≡ in_words xs u
in_words-rest x xs u =
    let d : (64 + u) / 64 ≡ suc (u / 64) = omega arith in
    let m : (64 + u) % 64 ≡ u % 64 = omega arith in
    ap (λ w. in_bits (get_or (x ∷ xs) w 0) ((64 + u) % 64)) d ∙ ap (in_bits (get_or xs (u / 64) 0)) m

pub length-words_below : (n : ℕ) (member : ℕ → Bool) → length (words_below n member) ≡ n
length-words_below zero member = refl
length-words_below (suc n) member = let e = length-words_below n (λ u. member (64 + u)) in omega arith

-- below the end the bits are those that pass
pub in_words-words_below : (n : ℕ) (member : ℕ → Bool) (u : ℕ) → u < n * 64 → in_words (words_below n member) u ≡ member u
in_words-words_below zero member u within = absurd (omega arith)
in_words-words_below (suc n) member u within =
    ⊎_elim here (λ le. there le (in_words-words_below n (λ v. member (64 + v)) (u - 64) (omega arith))) (cases_lt u 64)
  where
    here : u < 64 → in_words (words_below (suc n) member) u ≡ member u
    here lt = in_words-first (bits_below 64 member) (words_below n (λ v. member (64 + v))) u lt ∙ in_bits-bits_below 64 member u lt

    there : 64 ≤ u → in_words (words_below n (λ v. member (64 + v))) (u - 64) ≡ member (64 + (u - 64)) → in_words (words_below (suc n) member) u ≡ member u
    there le rest =
        let e : u ≡ 64 + (u - 64) = omega arith in
        ap (in_words (words_below (suc n) member)) e
        ∙ in_words-rest (bits_below 64 member) (words_below n (λ v. member (64 + v))) (u - 64)
        ∙ rest
        ∙ ap member (sym e)

-- words below 2 ^ 64 are those of their bits
pub words_below-is : (ws : List ℕ) (member : ℕ → Bool) → ((w : ℕ) → w < length ws → get_or ws w 0 < 2 ^ 64)
    → ((u : ℕ) → u < length ws * 64 → in_words ws u ≡ member u) → ws ≡ words_below (length ws) member
words_below-is [] member fits same = refl
words_below-is (x ∷ xs) member fits same =
    ap₂ (λ y ys. y ∷ ys)
    (bits_below-is 64 x member (fits 0 (omega arith)) (λ u low. sym (in_words-first x xs u low) ∙ same u (omega arith)))
    (words_below-is xs (λ u. member (64 + u)) (λ w low. fits (suc w) (omega arith)) (λ u low. sym (in_words-rest x xs u) ∙ same (64 + u) (omega arith)))

-- what passes below the end decides the words
pub words_below-same : (n : ℕ) (p q : ℕ → Bool) → ((u : ℕ) → u < n * 64 → p u ≡ q u) → words_below n p ≡ words_below n q
words_below-same zero p q same = refl
words_below-same (suc n) p q same =
    ap₂ (λ y ys. y ∷ ys)
    (bits_below-is 64 (bits_below 64 p) q (bits_below-lt 64 p) (λ u low. in_bits-bits_below 64 p u low ∙ same u (omega arith)))
    (words_below-same n (λ u. p (64 + u)) (λ u. q (64 + u)) (λ u low. same (64 + u) (omega arith)))

-- if none passes, the words are 0
pub words_below-none : (n : ℕ) (p : ℕ → Bool) → ((u : ℕ) → u < n * 64 → p u ≡ false) → words_below n p ≡ replicate n 0
words_below-none zero p none = refl
words_below-none (suc n) p none =
    ap₂ (λ y ys. y ∷ ys)
    (sym (bits_below-is 64 0 p (omega arith) (λ u low. in_bits-zero u ∙ sym (none u (omega arith)))))
    (words_below-none n (λ u. p (64 + u)) (λ u low. none (64 + u) (omega arith)))
