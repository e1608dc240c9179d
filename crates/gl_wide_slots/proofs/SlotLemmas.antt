-- The list of a set's slots.
use Rattle.std.proofs.Common.{◌≡◌, ◌≢◌, ℕ, zero, suc, ◌+◌, ◌^◌, ◌<◌, ◌≤◌, Bool, true, false, not, ◌&&◌, ◌==◌, [], ◌∷◌, refl, ap, ◌∙◌, ⊎_elim, List}
use Rattle.std.proofs.Common.{length, get_or, arith}
use Rattle.std.specs.List.{filter, range_with_len}
use Rattle.std.proofs.lemmas.Bool.{cases_eq}
use Rattle.std.proofs.lemmas.Bool.Decides.{nat_tests}
use Rattle.gl_wide_slots.specs.declared.slots.Slots.{Slots}
use Rattle.gl_wide_slots.specs.Words.{words_below}
use Rattle.gl_wide_slots.specs.Slots.{HasNoSlot, IsLowest, bits_of, has_bit, has_none, has_slot, no_bits, no_slots, number_of, slot_limit, slots_of, words_of}
use Rattle.gl_wide_slots.specs.Limit.{most_slots, most_words}
use Rattle.gl_wide_slots.proofs.WordLemmas.{idle-none, in_words-past, in_words-words_below, in_words-zeros, length-words_below, none-idle, words_below-is}
use Rattle.gl_wide_slots.proofs.WordLemmas.{words_below-none, words_below-same}

-- the limit of slots is their number
pub slot_limit-is : slot_limit ≡ most_slots
unfolding slot_limit
slot_limit-is = refl

-- filtered ranges

none-filtered : (p : ℕ → Bool) (a n : ℕ) → ((u : ℕ) → p u ≡ false) → filter p (range_with_len a n) ≡ []
none-filtered p a zero none = refl
none-filtered p a (suc n) none = let e = none a in let r = none-filtered p (a + 1) n none in grind arith

same-filtered : (p p' : ℕ → Bool) (a n : ℕ) → ((u : ℕ) → a ≤ u → p u ≡ p' u) → filter p (range_with_len a n) ≡ filter p' (range_with_len a n)
same-filtered p p' a zero same = refl
same-filtered p p' a (suc n) same =
    let e : p a ≡ p' a = same a (omega arith) in
    let r : filter p (range_with_len (a + 1) n) ≡ filter p' (range_with_len (a + 1) n) = same-filtered p p' (a + 1) n (λ u le. same u (omega arith)) in
    grind arith

first-filtered : (p p' : ℕ → Bool) (a n k : ℕ) → a ≤ k → k < a + n → p k ≡ true → ((u : ℕ) → u < k → p u ≡ false)
    → ((u : ℕ) → p' u ≡ (p u && not (u == k))) → filter p (range_with_len a n) ≡ k ∷ filter p' (range_with_len a n)
first-filtered p p' a zero k low high has none left = absurd (omega arith)
first-filtered p p' a (suc n) k low high has none left =
    ⊎_elim
    (λ e.
    let h : p a ≡ true = ap p e ∙ has in
    let g : p' a ≡ false = gone a k (p a) (p' a) (left a) e in
    let r : filter p (range_with_len (a + 1) n) ≡ filter p' (range_with_len (a + 1) n) =
    same-filtered p p' (a + 1) n (λ u le. kept u k (p u) (p' u) (left u) (omega arith)) in
    grind arith)
    (λ ne.
    let h : p a ≡ false = none a (omega arith) in
    let g : p' a ≡ false = absent (p a) (p' a) (a == k) (left a) h in
    let r : filter p (range_with_len (a + 1) n) ≡ k ∷ filter p' (range_with_len (a + 1) n) =
    first-filtered p p' (a + 1) n k (omega arith) (omega arith) has none left in
    grind arith)
    (cases_eq a k)
  where
    gone : (a k : ℕ) (x y : Bool) → y ≡ (x && not (a == k)) → a ≡ k → y ≡ false
    gone a k x y l e = grind (arith, nat_tests)

    kept : (u k : ℕ) (x y : Bool) → y ≡ (x && not (u == k)) → u ≢ k → x ≡ y
    kept u k x y l ne = grind (arith, nat_tests)

    absent : (x y b : Bool) → y ≡ (x && not b) → x ≡ false → y ≡ false
    absent x y b l h = grind arith

-- no slot, no item
pub slots_of-none : (s : Slots) → HasNoSlot s → slots_of s ≡ []
slots_of-none s none = none-filtered (has_slot s) 0 slot_limit none

-- the lowest slot is the first item, and the others follow
pub slots_of-lowest : (s t : Slots) (k : ℕ) → IsLowest s k → ((u : ℕ) → has_slot t u ≡ (has_slot s u && not (u == k))) → slots_of s ≡ k ∷ slots_of t
slots_of-lowest s t k l left =
    let high : k < slot_limit = rw slot_limit-is l.within in
    first-filtered (has_slot s) (has_slot t) 0 slot_limit k (omega arith) (omega arith) l.member l.none_below left

-- their lengths

no_longer-filtered : (p q : ℕ → Bool) (a n : ℕ) → ((u : ℕ) → q u ≡ true → p u ≡ true)
    → length (filter q (range_with_len a n)) ≤ length (filter p (range_with_len a n))
no_longer-filtered p q a zero some = omega arith
no_longer-filtered p q a (suc n) some = by (p a) (q a) refl refl (no_longer-filtered p q (a + 1) n some)
  where
    by : (b c : Bool) → p a ≡ b → q a ≡ c → length (filter q (range_with_len (a + 1) n)) ≤ length (filter p (range_with_len (a + 1) n))
        → length (filter q (range_with_len a (suc n))) ≤ length (filter p (range_with_len a (suc n)))
    by b true e f rest = let g : p a ≡ true = some a f in grind arith
    by true false e f rest = grind arith
    by false false e f rest = grind arith

shorter-filtered : (p q : ℕ → Bool) (a n k : ℕ) → a ≤ k → k < a + n → p k ≡ true → ((u : ℕ) → q u ≡ (p u && not (u == k)))
    → length (filter q (range_with_len a n)) < length (filter p (range_with_len a n))
shorter-filtered p q a zero k low high has left = absurd (omega arith)
shorter-filtered p q a (suc n) k low high has left =
    ⊎_elim here (λ ne. there ne (p a) refl (shorter-filtered p q (a + 1) n k (omega arith) (omega arith) has left)) (cases_eq a k)
  where
    gone : (x y : Bool) → y ≡ (x && not (a == k)) → a ≡ k → y ≡ false
    gone x y l e = grind (arith, nat_tests)

    kept : (x y : Bool) → y ≡ (x && not (a == k)) → a ≢ k → y ≡ x
    kept x y l ne = grind (arith, nat_tests)

    less : (x y : Bool) (b : Bool) → y ≡ (x && b) → y ≡ true → x ≡ true
    less x y b l h = grind arith

    here : a ≡ k → length (filter q (range_with_len a (suc n))) < length (filter p (range_with_len a (suc n)))
    here e =
        let h : p a ≡ true = ap p e ∙ has in
        let g : q a ≡ false = gone (p a) (q a) (left a) e in
        let r = no_longer-filtered p q (a + 1) n (λ u. less (p u) (q u) (not (u == k)) (left u)) in
        grind arith

    there : a ≢ k → (b : Bool) → p a ≡ b → length (filter q (range_with_len (a + 1) n)) < length (filter p (range_with_len (a + 1) n))
        → length (filter q (range_with_len a (suc n))) < length (filter p (range_with_len a (suc n)))
    there ne true e rest = let g : q a ≡ true = kept (p a) (q a) (left a) ne ∙ e in grind arith
    there ne false e rest = let g : q a ≡ false = kept (p a) (q a) (left a) ne ∙ e in grind arith

-- a set whose slots are all in another has no more
pub no_more : (s t : Slots) → ((u : ℕ) → has_slot t u ≡ true → has_slot s u ≡ true) → number_of t ≤ number_of s
no_more s t some = no_longer-filtered (has_slot s) (has_slot t) 0 slot_limit some

-- without one of its slots a set has fewer
pub fewer : (s t : Slots) (k : ℕ) → k < most_slots → has_slot s k ≡ true → ((u : ℕ) → has_slot t u ≡ (has_slot s u && not (u == k))) → number_of t < number_of s
fewer s t k low has left =
    let high : k < slot_limit = rw slot_limit-is low in
    shorter-filtered (has_slot s) (has_slot t) 0 slot_limit k (omega arith) (omega arith) has left

-- the test of the empty set
pub none-test : (s : Slots) → HasNoSlot s → has_none s ≡ true
none-test s none = none-idle s.words none

pub test-none : (s : Slots) → has_none s ≡ true → HasNoSlot s
test-none s e = idle-none s.words e

-- the empty set has no slot
pub no_slots-none : HasNoSlot no_slots
no_slots-none u = in_words-zeros most_words u

-- what snapshots show

abbrev set_of : List ℕ → Slots
set_of words = record { words = words }

pub no_bits-none : (u : ℕ) → has_bit no_bits u ≡ false
no_bits-none u = no_slots-none u

-- below the limit the slots that are shown are those that pass
pub has_bit-bits_of : (member : ℕ → Bool) (u : ℕ) → u < most_slots → has_bit (bits_of member) u ≡ member u
unfolding bits_of
has_bit-bits_of member u low = in_words-words_below most_words member u (omega arith)

-- from the limit on none is shown
pub bits_of-above : (member : ℕ → Bool) (u : ℕ) → most_slots ≤ u → has_bit (bits_of member) u ≡ false
unfolding bits_of
bits_of-above member u above = let n = length-words_below most_words member in in_words-past (words_below most_words member) u (omega arith)

-- what passes below the limit decides what is shown
pub bits_of-same : (p q : ℕ → Bool) → ((u : ℕ) → u < most_slots → p u ≡ q u) → bits_of p ≡ bits_of q
unfolding bits_of
bits_of-same p q same = ap set_of (words_below-same most_words p q (λ u low. same u (omega arith)))

-- if none passes, the empty set is shown
pub bits_of-none : (p : ℕ → Bool) → ((u : ℕ) → u < most_slots → p u ≡ false) → bits_of p ≡ no_bits
unfolding bits_of
bits_of-none p none = ap set_of (words_below-none most_words p (λ u low. none u (omega arith)))

-- a set is shown as it is
pub bits_of-is : (s : Slots) → length s.words ≡ most_words → ((w : ℕ) → w < most_words → get_or s.words w 0 < 2 ^ 64) → s ≡ bits_of (has_slot s)
unfolding bits_of
bits_of-is s all fits =
    ap set_of (words_below-is s.words (has_slot s) (λ w low. fits w (omega arith)) (λ u low. refl) ∙ ap (λ n. words_below n (has_slot s)) all)

-- and so are its words
pub words_of-is : (s : Slots) → length s.words ≡ most_words → ((w : ℕ) → w < most_words → get_or s.words w 0 < 2 ^ 64) → s.words ≡ words_of (has_slot s)
unfolding words_of
words_of-is s all fits = words_below-is s.words (has_slot s) (λ w low. fits w (omega arith)) (λ u low. refl) ∙ ap (λ n. words_below n (has_slot s)) all
