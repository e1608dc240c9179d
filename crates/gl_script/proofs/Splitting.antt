-- A line is split into fields in one way.
use Rattle.std.proofs.Common.{◌≡◌, ◌≢◌, ℕ, ◌==◌, Bool, true, false, Decides, List, [], ◌∷◌, ◌++◌, All, refl, sym, ap, ◌∙◌, true≢false, length, arith}
use Rattle.std.specs.List.{slice_split}
use Rattle.std.proofs.lemmas.List.Elements.{All-head, All-tail, All-weaker}
use Rattle.std.proofs.lemmas.List.Splits.{slice_split_at, slice_split_none, length-slice_split}
use Rattle.std.proofs.lemmas.Bool.Decides.{Decides-eqb}

refuted : {P : Type 0} (r : Bool) → Decides r P → ¬ P → r ≡ false
refuted true d n = absurd (n (d.0 refl))
refuted false d n = refl

passes_not : (c : ℕ) (bs : List ℕ) → All (λ b. b ≢ c) bs → All (λ b. (b == c) ≡ false) bs
passes_not c bs h = All-weaker (λ b. b ≢ c) (λ b. (b == c) ≡ false) (λ b ne. refuted (b == c) (Decides-eqb b c) ne) bs h

-- the first field ends at the first space
pub split_first : (rest field more : List ℕ) → rest ≡ field ++ 32 ∷ more → All (λ b. b ≢ 32) field
    → slice_split (λ b. b == 32) rest ≡ field ∷ slice_split (λ b. b == 32) more
split_first rest field more cut here = ap (slice_split (λ b. b == 32)) cut ∙ slice_split_at (λ b. b == 32) field 32 more (passes_not 32 field here) refl

-- without a space there is one field
pub split_last : (rest : List ℕ) → All (λ b. b ≢ 32) rest → slice_split (λ b. b == 32) rest ≡ rest ∷ []
split_last rest here = slice_split_none (λ b. b == 32) rest (passes_not 32 rest here)

-- there is a field, even of an empty text
pub some_field : (rest : List ℕ) → slice_split (λ b. b == 32) rest ≢ []
some_field rest e = omega (arith, ap length e, length-slice_split (λ b. b == 32) rest)

-- the text before the first such byte
pub cut_once : (c : ℕ) (a b x y : List ℕ) → All (λ u. u ≢ c) a → All (λ u. u ≢ c) b → a ++ c ∷ x ≡ b ++ c ∷ y → (a ≡ b) × (x ≡ y)
cut_once c [] [] x y p q e = (refl, cc)
cut_once c [] (d ∷ b) x y p q e = absurd (All-head (λ u. u ≢ c) d b q (cc))
cut_once c (d ∷ a) [] x y p q e = absurd (All-head (λ u. u ≢ c) d a p (cc))
cut_once c (d ∷ a) (f ∷ b) x y p q e =
    let more = cut_once c a b x y (All-tail (λ u. u ≢ c) d a p) (All-tail (λ u. u ≢ c) f b q) (cc) in
    let head : d ≡ f = cc in
    (ap (λ h. h ∷ a) head ∙ ap (λ t. f ∷ t) more.0, more.1)

pub has_byte : (c : ℕ) (a x : List ℕ) → All (λ u. u ≢ c) (a ++ c ∷ x) → ⊥
has_byte c [] x h = All-head (λ u. u ≢ c) c x h refl
has_byte c (d ∷ a) x h = has_byte c a x (All-tail (λ u. u ≢ c) d (a ++ c ∷ x) h)

pub same_test : (n m : ℕ) (b : Bool) → b ≡ (n == m) → b ≡ true → n ≡ m
same_test n m b e t = (Decides-eqb n m).0 (sym e ∙ t)

pub other_test : (n m : ℕ) (b : Bool) → b ≡ (n == m) → b ≡ false → n ≢ m
other_test n m b e f same = true≢false (sym ((Decides-eqb n m).1 same) ∙ sym e ∙ f)
