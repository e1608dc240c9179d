-- Notices by rising slot, and their boxes.
use Rattle.std.proofs.Common.{◌≡◌, ◌≢◌, ℕ, zero, suc, ◌+◌, ◌≤◌, ◌<◌, List, [], ◌∷◌, length, All, fold, slice_index_or, slice_set, Some, refl, sym, ap}
use Rattle.std.proofs.Common.{◌∙◌, arith, le_trans, subst}
use Rattle.gl_model.specs.declared.txn.TxnId.{TxnId}
use Rattle.gl_model.specs.declared.answers.Notice.{Notice}
use Rattle.gl_wakes.specs.Notices.{RisingTo}
use Rattle.gl_wakes.specs.Boxes.{Slot, box_at, put_in, Delivers}

all_nil : {X : Type 0} (P : X → Type 0) → All P []
all_nil P k d less = absurd (omega (arith, less))

all_cons : {X : Type 0} (P : X → Type 0) (x : X) (xs : List X) → P x → All P xs → (k : ℕ) (d : X) → k < suc (length xs) → P (slice_index_or (x ∷ xs) k d)
all_cons P x xs h t zero d less = h
all_cons P x xs h t (suc k) d less = t k d (omega (arith, less))

-- setting one element of a list
set_length : (boxes : List Slot) (i : ℕ) (x : Slot) → length (slice_set boxes i x) ≡ length boxes
set_length [] zero x = refl
set_length [] (suc i) x = refl
set_length (b ∷ boxes) zero x = refl
set_length (b ∷ boxes) (suc i) x = ap suc (set_length boxes i x)

set_there : (boxes : List Slot) (i : ℕ) (x : Slot) → i < length boxes → box_at (slice_set boxes i x) i ≡ x
set_there [] i x less = absurd (omega arith)
set_there (b ∷ boxes) zero x less = refl
set_there (b ∷ boxes) (suc i) x less = set_there boxes i x (omega (arith, less))

set_apart : (boxes : List Slot) (i k : ℕ) (x : Slot) → k ≢ i → box_at (slice_set boxes i x) k ≡ box_at boxes k
set_apart [] zero k x apart = refl
set_apart [] (suc i) k x apart = refl
set_apart (b ∷ boxes) zero zero x apart = absurd (apart refl)
set_apart (b ∷ boxes) zero (suc k) x apart = refl
set_apart (b ∷ boxes) (suc i) zero x apart = refl
set_apart (b ∷ boxes) (suc i) (suc k) x apart = set_apart boxes i k x (λ is. apart (ap suc is))

-- beyond the end nothing is set
pub set_past : (boxes : List Slot) (i : ℕ) (x : Slot) → length boxes ≤ i → slice_set boxes i x ≡ boxes
set_past [] zero x past = refl
set_past [] (suc i) x past = refl
set_past (b ∷ boxes) zero x past = absurd (omega (arith, past))
set_past (b ∷ boxes) (suc i) x past = ap (λ (l : List Slot). b ∷ l) (set_past boxes i x (omega (arith, past)))

pub rising_on : (k j i : ℕ) (told : List (TxnId × Notice)) → RisingTo k told j → j ≤ i → RisingTo k told i
rising_on k j i [] r le = le_trans r le
rising_on k j i (x ∷ xs) r le = (r.0, rising_on (x.0.slot + 1) j i xs r.1 le)

rising_front : (k j : ℕ) (told : List (TxnId × Notice)) → RisingTo k told j → k ≤ j
rising_front k j [] r = r
rising_front k j (x ∷ xs) r = let rest = rising_front (x.0.slot + 1) j xs r.1 in omega (arith, rest, r.0)

at_take : (k j i : ℕ) (told : List (TxnId × Notice)) (d : TxnId × Notice) → RisingTo k told j → i < length told → (slice_index_or told i d).0.slot < j
at_take k j i [] d r less = absurd (omega arith)
at_take k j zero (x ∷ xs) d r less = let up = rising_front (x.0.slot + 1) j xs r.1 in omega (arith, up)
at_take k j (suc i) (x ∷ xs) d r less = at_take (x.0.slot + 1) j i xs d r.1 (omega (arith, less))

-- each told slot is below the bound
pub slot_below : (j i : ℕ) (told : List (TxnId × Notice)) (d : TxnId × Notice) → RisingTo 0 told j → i < length told → (slice_index_or told i d).0.slot < j
slot_below j i told d r less = at_take 0 j i told d r less

-- boxes below the first told slot stay
kept_below : (k j : ℕ) (told : List (TxnId × Notice)) (boxes : List Slot) (slot : ℕ) → RisingTo k told j → slot < k
    → box_at (fold put_in boxes told) slot ≡ box_at boxes slot
kept_below k j [] boxes slot r less = refl
kept_below k j (x ∷ xs) boxes slot r less =
    let rest = kept_below (x.0.slot + 1) j xs (put_in boxes x) slot r.1 (omega (arith, r.0)) in
    rest ∙ set_apart boxes x.0.slot slot (Some x) (λ is. absurd (omega (arith, r.0, is, less)))

others_kept : (told : List (TxnId × Notice)) (boxes : List Slot) (slot : ℕ) → All (λ x. x.0.slot ≢ slot) told
    → box_at (fold put_in boxes told) slot ≡ box_at boxes slot
others_kept [] boxes slot apart = refl
others_kept (x ∷ xs) boxes slot apart = others_kept xs (put_in boxes x) slot (λ k d less. apart (suc k) d (omega (arith, less))) ∙
    set_apart boxes x.0.slot slot (Some x) (λ is. apart 0 x (omega arith) (sym is))

each_stands : (k j : ℕ) (told : List (TxnId × Notice)) (boxes : List Slot) → RisingTo k told j → j ≤ length boxes
    → All (λ x. box_at (fold put_in boxes told) x.0.slot ≡ Some x) told
each_stands k j [] boxes r fits = all_nil (λ x. box_at boxes x.0.slot ≡ Some x)
each_stands k j (x ∷ xs) boxes r fits =
    let up = rising_front (x.0.slot + 1) j xs r.1 in
    let len : length (put_in boxes x) ≡ length boxes = set_length boxes x.0.slot (Some x) in
    let here : box_at (fold put_in (put_in boxes x) xs) x.0.slot ≡ Some x = kept_below (x.0.slot + 1) j xs (put_in boxes x) x.0.slot r.1 (omega arith) ∙
    set_there boxes x.0.slot (Some x) (omega (arith, up, fits)) in
    all_cons (λ y. box_at (fold put_in (put_in boxes x) xs) y.0.slot ≡ Some y) x xs here
    (each_stands (x.0.slot + 1) j xs (put_in boxes x) r.1 (omega (arith, len, fits)))

pub delivers : (j : ℕ) (told : List (TxnId × Notice)) (boxes : List Slot) → RisingTo 0 told j → j ≤ length boxes → Delivers boxes told (fold put_in boxes told)
delivers j told boxes r fits = record { stands = each_stands 0 j told boxes r fits; others = λ slot apart. others_kept told boxes slot apart }

-- if nobody is told, all boxes stay
pub delivers_none : (told : List (TxnId × Notice)) (boxes : List Slot) → told ≡ [] → Delivers boxes told boxes
delivers_none told boxes none =
    subst (λ (l : List (TxnId × Notice)). Delivers boxes l boxes) (sym none)
    (record { stands = all_nil (λ (x : TxnId × Notice). box_at boxes x.0.slot ≡ Some x); others = λ slot apart. refl })
