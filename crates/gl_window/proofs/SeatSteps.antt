-- Each step at the seats keeps their rule.
use Rattle.gl_window.proofs.Words.{◌+◌, ◌++◌, ◌<◌, [], ◌∙◌, ◌∷◌, ◌≡◌, ap, arith, bit_at, List, nat_tests, None, one_shl, refl, Sitter, Some, subst, suc, sym}
use Rattle.gl_window.proofs.Words.{zero, ℕ}
use Rattle.std.proofs.Common.{◌%◌, ◌*◌, ◌^◌, ◌≢◌, bit_and, bit_or, bit_xor, get_or, get_or-set_same, length-set, max, set}
use mathlib.Core.Logic.{dite}
use mathlib.Core.Option.{none, some, some-injective, some-ne-none}
use native.Mathlib.Decide.{ℕ_discrete}
use lib.ListN.{get_elem?}
use Rattle.std.proofs.lemmas.Nat.{pow_pos}
use Rattle.std.proofs.lemmas.Nat.Bits.{and_pow, bit_at-lt, bit_at-pow_other, bit_at-pow_same, bit_at_or, bit_at_xor}
use Rattle.atomic_table.specs.Table.{Allows, Enters, keeps, State, step, stepped}
use Rattle.gl_window.specs.Seats.{Leaves, one_at, Seated, sitting, Takes, Token}

abbrev St : Type 0
St = State (Unit {0}) Sitter

one_here : (k : ℕ) → one_at k (Some k) ≡ 1
one_here k = grind (arith, nat_tests)

one_there : (n k : ℕ) → n ≢ k → one_at n (Some k) ≡ 0
one_there n k ne = grind (arith, nat_tests)

sitting_set : (n : ℕ) (l : List Sitter) (i : ℕ) (v w : Sitter) → get_elem? l i ≡ some v → sitting n (set l i w) + one_at n v.has ≡ sitting n l + one_at n w.has
sitting_set n [] i v w e = absurd (some-ne-none v (sym e))
sitting_set n (x ∷ xs) zero v w e = let is : one_at n x.has ≡ one_at n v.has = ap (λ (m : Sitter). one_at n m.has) (some-injective x v e) in omega arith
sitting_set n (x ∷ xs) (suc i) v w e = let r = sitting_set n xs i v w e in omega arith

sitting_more : (n : ℕ) (l : List Sitter) (v : Sitter) → sitting n (l ++ v ∷ []) ≡ sitting n l + one_at n v.has
sitting_more n [] v = omega arith
sitting_more n (x ∷ xs) v = let r = sitting_more n xs v in omega arith

-- a new token has no seat
pub enters : (slots : ℕ) (v : ℕ → Sitter) → ((r : ℕ) → (v r).has ≡ None) → Enters Seated slots 0 (λ r w. w ≡ v r)
enters slots v free s r _ _ =
    let x : ℕ = get_or s.words 0 0 in (
      v x,
      record {
        one_word = r.one_word;
        each = λ n.
            let more = sitting_more n s.views (v x) in
            let nothing : one_at n (v x).has ≡ 0 = ap (one_at n) (free x) in
            let was = r.each n in
            omega arith;
      },
      refl,
    )

placed : (s : St) (r : Seated s) (m id : ℕ) (me : Token) (w : Sitter) → ((n : ℕ) → sitting n (set s.views id w) ≡ bit_at m n)
    → Seated (stepped s 0 m id me.1 w keeps)
placed s r m id me w is =
    let wide = r.one_word in
    record {
      one_word = length-set s.words 0 m ∙ wide;
      each = λ n. is n ∙ ap (λ (z : ℕ). bit_at z n) (sym (get_or-set_same s.words 0 m 0 (omega arith)));
    }

same_power : (k n : ℕ) → 2 ^ k ≡ 2 ^ n → n ≡ k
same_power k n is = dite (ℕ_discrete n k) (λ e. e) (λ ne.
    let one = bit_at-pow_same n in
    let no = bit_at-pow_other k n ne in
    let both : bit_at (2 ^ k) n ≡ bit_at (2 ^ n) n = ap (λ z. bit_at z n) is in
    absurd (omega arith))

-- a seat is taken by its bit
pub takes : (slots id k : ℕ) (me : Token) → k < 64 → me.0.has ≡ None
    → Allows Seated slots id me 0 (λ x. bit_or x (1 * 2 ^ k % 2 ^ 64)) (Takes (step slots 0 (1 * 2 ^ k % 2 ^ 64) 0 none) me)
takes slots id k me low free = subst (λ (b : ℕ). Allows Seated slots id me 0 (λ x. bit_or x b) (Takes (step slots 0 b 0 none) me)) (sym (one_shl k 64 low)) go
  where
    go : Allows Seated slots id me 0 (λ x. bit_or x (2 ^ k)) (Takes (step slots 0 (2 ^ k) 0 none) me)
    go s r _ at _ =
        let x : ℕ = get_or s.words 0 0 in
        let new : Sitter = record { has = Some k; tried = me.0.tried; found = me.0.found } in
        let old : Sitter = record { has = me.0.has; tried = bit_or me.0.tried (2 ^ k); found = me.0.found } in
        let nothing : (n : ℕ) → one_at n me.0.has ≡ 0 = λ n. ap (one_at n) free in
        dite (ℕ_discrete (bit_at x k) 0)
        (λ clear. (
          new,
          keeps,
          tt,
          placed s r (bit_or x (2 ^ k)) id me new (λ n.
              let sum = sitting_set n s.views id me.0 new at in
              let was = r.each n in
              let zero_me = nothing n in
              let bits = bit_at_or x (2 ^ k) n in
              dite (ℕ_discrete n k)
              (λ e.
              let here : one_at n (Some k) ≡ 1 = subst (λ (z : ℕ). one_at z (Some k) ≡ 1) (sym e) (one_here k) in
              let bit : bit_at (2 ^ k) n ≡ 1 = subst (λ (z : ℕ). bit_at (2 ^ k) z ≡ 1) (sym e) (bit_at-pow_same k) in
              let none_yet : bit_at x n ≡ 0 = subst (λ (z : ℕ). bit_at x z ≡ 0) (sym e) clear in
              let top : max (bit_at x n) (bit_at (2 ^ k) n) ≡ 1 = ap (λ z. max z (bit_at (2 ^ k) n)) none_yet ∙ ap (max 0) bit in
              omega arith)
              (λ ne.
              let there = one_there n k ne in
              let bit = bit_at-pow_other k n ne in
              let top : max (bit_at x n) (bit_at (2 ^ k) n) ≡ bit_at x n = ap (max (bit_at x n)) bit ∙ max_zero (bit_at x n) in
              omega arith)),
          λ n is. (
            (λ _. ap (λ z. record { has = Some z; tried = me.0.tried; found = me.0.found }) (sym (same_power k n is))),
            λ one. let e : bit_at x k ≡ 1 = subst (λ (z : ℕ). bit_at x z ≡ 1) (same_power k n is) one in absurd (omega arith),
          ),
        ))
        (λ taken. (
          old,
          keeps,
          tt,
          placed s r (bit_or x (2 ^ k)) id me old (λ n.
              let sum = sitting_set n s.views id me.0 old at in
              let was = r.each n in
              let bits = bit_at_or x (2 ^ k) n in
              let small = bit_at-lt x k in
              dite (ℕ_discrete n k)
              (λ e.
              let bit : bit_at (2 ^ k) n ≡ 1 = subst (λ (z : ℕ). bit_at (2 ^ k) z ≡ 1) (sym e) (bit_at-pow_same k) in
              let one_yet : bit_at x n ≡ 1 = subst (λ (z : ℕ). bit_at x z ≡ 1) (sym e) (omega (arith, taken, small)) in
              let top : max (bit_at x n) (bit_at (2 ^ k) n) ≡ 1 = ap (λ z. max z (bit_at (2 ^ k) n)) one_yet ∙ ap (max 1) bit in
              omega arith)
              (λ ne.
              let bit = bit_at-pow_other k n ne in
              let top : max (bit_at x n) (bit_at (2 ^ k) n) ≡ bit_at x n = ap (max (bit_at x n)) bit ∙ max_zero (bit_at x n) in
              omega arith)),
          λ n is. ((λ clear. let e : bit_at x k ≡ 0 = subst (λ (z : ℕ). bit_at x z ≡ 0) (same_power k n is) clear in absurd (taken e)), λ _. refl),
        ))
      where
        max_zero : (b : ℕ) → max b 0 ≡ b
        max_zero b = omega arith

-- a seat is given back by its bit
pub leaves : (slots id k : ℕ) (me : Token) → k < 64 → me.0.has ≡ Some k
    → Allows Seated slots id me 0 (λ x. bit_xor x (1 * 2 ^ k % 2 ^ 64)) (Leaves (step slots 0 (1 * 2 ^ k % 2 ^ 64) 0 none) me)
leaves slots id k me low has = subst (λ (b : ℕ). Allows Seated slots id me 0 (λ x. bit_xor x b) (Leaves (step slots 0 b 0 none) me)) (sym (one_shl k 64 low)) go
  where
    go : Allows Seated slots id me 0 (λ x. bit_xor x (2 ^ k)) (Leaves (step slots 0 (2 ^ k) 0 none) me)
    go s r _ at _ =
        let x : ℕ = get_or s.words 0 0 in
        let new : Sitter = record { has = None; tried = me.0.tried; found = me.0.found } in (
          new,
          keeps,
          tt,
          placed s r (bit_xor x (2 ^ k)) id me new (λ n.
              let sum = sitting_set n s.views id me.0 new at in
              let mine : one_at n me.0.has ≡ one_at n (Some k) = ap (one_at n) has in
              let was = r.each n in
              let small = bit_at-lt x n in
              let bits = bit_at_xor x (2 ^ k) n in
              dite (ℕ_discrete n k)
              (λ e.
              let here : one_at n (Some k) ≡ 1 = subst (λ (z : ℕ). one_at z (Some k) ≡ 1) (sym e) (one_here k) in
              let bit : bit_at (2 ^ k) n ≡ 1 = subst (λ (z : ℕ). bit_at (2 ^ k) z ≡ 1) (sym e) (bit_at-pow_same k) in
              omega arith)
              (λ ne.
              let there = one_there n k ne in
              let bit = bit_at-pow_other k n ne in
              omega arith)),
          refl,
        )

-- what a test of a bit means
tested : (b p : ℕ) → b < 2 → 0 < p → ((b * p ≡ 0) → b ≡ 0) × ((b * p ≢ 0) → b ≡ 1)
tested zero p small above = ((λ _. refl), λ no. absurd (no (omega arith)))
tested (suc zero) p small above = ((λ is. absurd (omega arith)), λ _. refl)
tested (suc (suc b)) p small above = absurd (omega arith)

pub clear_bit : (x k : ℕ) → k < 64 → bit_and x (1 * 2 ^ k % 2 ^ 64) ≡ 0 → bit_at x k ≡ 0
clear_bit x k low is = (tested (bit_at x k) (2 ^ k) (bit_at-lt x k) (pow_pos k)).0 (sym (and_pow x k) ∙ ap (bit_and x) (sym (one_shl k 64 low)) ∙ is)

pub set_bit : (x k : ℕ) → k < 64 → bit_and x (1 * 2 ^ k % 2 ^ 64) ≢ 0 → bit_at x k ≡ 1
set_bit x k low not = (tested (bit_at x k) (2 ^ k) (bit_at-lt x k) (pow_pos k)).1 (λ is. not (ap (bit_and x) (one_shl k 64 low) ∙ and_pow x k ∙ is))

-- one more seat was found taken
pub one_more : (tried k : ℕ) → k < 64 → ((n : ℕ) → n < k → bit_at tried n ≡ 1) → (n : ℕ) → n < k + 1 → bit_at (bit_or tried (1 * 2 ^ k % 2 ^ 64)) n ≡ 1
one_more tried k low so_far n below =
    subst (λ (b : ℕ). bit_at (bit_or tried b) n ≡ 1) (sym (one_shl k 64 low))
    (bit_at_or tried (2 ^ k) n
    ∙ dite (ℕ_discrete n k)
    (λ e. ap (max (bit_at tried n)) (subst (λ (z : ℕ). bit_at (2 ^ k) z ≡ 1) (sym e) (bit_at-pow_same k)) ∙ (let small = bit_at-lt tried n in omega arith))
    (λ ne. ap (λ z. max z (bit_at (2 ^ k) n)) (so_far n (omega arith)) ∙ (let small = bit_at-lt (2 ^ k) n in omega arith)))
