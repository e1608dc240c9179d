-- Sets with the same slots are equal, and the list of a set's slots.
use Rattle.std.proofs.Common.{◌≡◌, ◌≢◌, ℕ, zero, suc, ◌+◌, ◌^◌, ◌<◌, ◌≤◌, Bool, true, false, not, ◌&&◌, ◌==◌, [], ◌∷◌, refl, sym, ap, ◌∙◌, ⊎_elim, arith}
use Rattle.std.specs.List.{filter, range_with_len}
use Rattle.std.proofs.lemmas.Bool.{cases_eq, cases_lt}
use Rattle.std.proofs.lemmas.Bool.Decides.{nat_tests}
use Rattle.gl_slots.specs.declared.slots.Slots.{Slots}
use Rattle.gl_slots.specs.Limit.{most_slots}
use Rattle.gl_slots.specs.Bits.{in_bits, bits_below}
use Rattle.gl_slots.specs.Slots.{HasNoSlot, IsLowest, bits_of, has_bit, has_none, has_slot, no_bits, no_slots, slot_limit, slots_of}
use Rattle.gl_slots.proofs.BitLemmas.{in_bits-zero, in_bits-above, in_bits-bits_below, bits_below-lt, same_slots as same_numbers}

-- sets with the same slots are equal
pub same_sets : (a b : Slots) → ((u : ℕ) → has_slot a u ≡ has_slot b u) → a ≡ b
same_sets a b same = ap (λ n. record { bits = n }) (same_numbers a.bits b.bits same)

pub none-no_slots : (s : Slots) → HasNoSlot s → s ≡ no_slots
none-no_slots s none = same_sets s no_slots (λ u. none u ∙ sym (in_bits-zero u))

pub none-test : (s : Slots) → HasNoSlot s → has_none s ≡ true
none-test s none = ap has_none (none-no_slots s none)

pub test-none : (s : Slots) → has_none s ≡ true → HasNoSlot s
test-none s e u = ap (λ n. in_bits n u) (is-zero s.bits e) ∙ in_bits-zero u
  where
    is-zero : (n : ℕ) → (n == 0) ≡ true → n ≡ 0
    is-zero n e = grind (arith, nat_tests)

-- no slot is in the empty set
pub no_slots-none : HasNoSlot no_slots
no_slots-none u = in_bits-zero u

-- the limit of slots, unfolded
pub slot_limit-is : slot_limit ≡ most_slots
unfolding slot_limit
slot_limit-is = refl

-- filtered ranges

none-filtered : (p : ℕ → Bool) (a n : ℕ) → ((u : ℕ) → p u ≡ false) → filter p (range_with_len a n) ≡ []
none-filtered p a zero none = refl
none-filtered p a (suc n) none = let e = none a in let r = none-filtered p (a + 1) n none in grind arith

same-filtered : (p p' : ℕ → Bool) (a n : ℕ) → ((u : ℕ) → a ≤ u → p u ≡ p' u) → filter p (range_with_len a n) ≡ filter p' (range_with_len a n)
same-filtered p p' a zero same = refl
same-filtered p p' a (suc n) same =
    let e : p a ≡ p' a = same a (omega arith) in
    let r : filter p (range_with_len (a + 1) n) ≡ filter p' (range_with_len (a + 1) n) = same-filtered p p' (a + 1) n (λ u le. same u (omega arith)) in
    grind arith

first-filtered : (p p' : ℕ → Bool) (a n k : ℕ) → a ≤ k → k < a + n → p k ≡ true → ((u : ℕ) → u < k → p u ≡ false)
    → ((u : ℕ) → p' u ≡ (p u && not (u == k))) → filter p (range_with_len a n) ≡ k ∷ filter p' (range_with_len a n)
first-filtered p p' a zero k low high has none left = absurd (omega arith)
first-filtered p p' a (suc n) k low high has none left =
    ⊎_elim
    (λ e.
    let h : p a ≡ true = ap p e ∙ has in
    let g : p' a ≡ false = gone a k (p a) (p' a) (left a) e in
    let r : filter p (range_with_len (a + 1) n) ≡ filter p' (range_with_len (a + 1) n) =
    same-filtered p p' (a + 1) n (λ u le. kept u k (p u) (p' u) (left u) (omega arith)) in
    grind arith)
    (λ ne.
    let h : p a ≡ false = none a (omega arith) in
    let g : p' a ≡ false = absent (p a) (p' a) (a == k) (left a) h in
    let r : filter p (range_with_len (a + 1) n) ≡ k ∷ filter p' (range_with_len (a + 1) n) =
    first-filtered p p' (a + 1) n k (omega arith) (omega arith) has none left in
    grind arith)
    (cases_eq a k)
  where
    gone : (a k : ℕ) (x y : Bool) → y ≡ (x && not (a == k)) → a ≡ k → y ≡ false
    gone a k x y l e = grind (arith, nat_tests)

    kept : (u k : ℕ) (x y : Bool) → y ≡ (x && not (u == k)) → u ≢ k → x ≡ y
    kept u k x y l ne = grind (arith, nat_tests)

    absent : (x y b : Bool) → y ≡ (x && not b) → x ≡ false → y ≡ false
    absent x y b l h = grind arith

-- no slot, no item
pub slots_of-none : (s : Slots) → HasNoSlot s → slots_of s ≡ []
slots_of-none s none = none-filtered (has_slot s) 0 slot_limit none

-- the lowest slot is the first item, and the others follow
pub slots_of-lowest : (s t : Slots) (k : ℕ) → IsLowest s k → ((u : ℕ) → has_slot t u ≡ (has_slot s u && not (u == k))) → slots_of s ≡ k ∷ slots_of t
slots_of-lowest s t k l left =
    let high : k < slot_limit = rw slot_limit-is l.within in
    first-filtered (has_slot s) (has_slot t) 0 slot_limit k (omega arith) (omega arith) l.member l.none_below left

-- what snapshots show

pub no_bits-none : (u : ℕ) → has_bit no_bits u ≡ false
no_bits-none u = in_bits-zero u

-- below the limit the slots that are shown are those that pass
pub has_bit-bits_of : (member : ℕ → Bool) (u : ℕ) → u < most_slots → has_bit (bits_of member) u ≡ member u
unfolding bits_of
has_bit-bits_of member u low = in_bits-bits_below most_slots member u low

-- from the limit on none is shown
pub bits_of-above : (member : ℕ → Bool) (u : ℕ) → most_slots ≤ u → has_bit (bits_of member) u ≡ false
unfolding bits_of
bits_of-above member u above = in_bits-above (bits_below most_slots member) most_slots u (bits_below-lt most_slots member) above

-- what passes below the limit decides what is shown
pub bits_of-same : (p q : ℕ → Bool) → ((u : ℕ) → u < most_slots → p u ≡ q u) → bits_of p ≡ bits_of q
bits_of-same p q same = same_numbers (bits_of p) (bits_of q)
    (λ u. ⊎_elim
    (λ low. has_bit-bits_of p u low ∙ same u low ∙ sym (has_bit-bits_of q u low))
    (λ above. bits_of-above p u above ∙ sym (bits_of-above q u above))
    (cases_lt u most_slots))

-- if none passes, the empty set is shown
pub bits_of-none : (p : ℕ → Bool) → ((u : ℕ) → u < most_slots → p u ≡ false) → bits_of p ≡ no_bits
bits_of-none p none = same_numbers (bits_of p) no_bits
    (λ u. ⊎_elim
    (λ low. has_bit-bits_of p u low ∙ none u low ∙ sym (no_bits-none u))
    (λ above. bits_of-above p u above ∙ sym (no_bits-none u))
    (cases_lt u most_slots))

-- a set is shown as its number
pub bits_of-is : (bits : ℕ) → bits < 2 ^ 128 → bits ≡ bits_of (has_bit bits)
bits_of-is bits small = same_numbers bits (bits_of (has_bit bits))
    (λ u. ⊎_elim
    (λ low. sym (has_bit-bits_of (has_bit bits) u low))
    (λ above. in_bits-above bits 128 u small above ∙ sym (bits_of-above (has_bit bits) u above))
    (cases_lt u most_slots))
