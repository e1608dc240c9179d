-- Sets of rows by slot: one of them is written.
use Rattle.std.specs.Prelude.{◌≡◌, ◌<◌, ◌==◌, ◌&&◌, ◌||◌, ℕ, zero, suc, Bool, not, true, false, List, [], ◌∷◌, filter, get_or, length, slice_set, cond}
use Rattle.std.specs.List.{list_any}
use Rattle.std.proofs.Common.{refl, sym, ap, ◌∙◌, subst}
use Rattle.std.proofs.Math.Bool.{and-false, and-true, or-false, or-true}
use Rattle.std.proofs.lemmas.List.{get_or-map, get_or-set_other, get_or-set_same, length-map, map-set}
use Rattle.indexmap.specs.IndexSet.{IndexSet, spare}
use Rattle.gl_modes.proofs.Words.{clash, number_same, same_number, some_is, split}
use Rattle.gl_rows.specs.Rows.{is_in_any, same_row}
use Rattle.gl_rows.specs.Sound.{HasRoom, Sets, is_in, rows_of}
use Rattle.gl_rows.specs.declared.row.Row.{Row}

-- a set is replaced twice
pub set_twice : {A : Type 0} (xs : List A) (i : ℕ) (a b : A) → slice_set (slice_set xs i a) i b ≡ slice_set xs i b
set_twice [] i a b = refl
set_twice (x ∷ xs) zero a b = refl
set_twice (x ∷ xs) (suc i) a b = ap (λ ys. x ∷ ys) (set_twice xs i a b)

-- nothing in it
pub none_of : {A : Type 0} (xs : List A) → length xs ≡ 0 → xs ≡ []
none_of [] e = refl
none_of (x ∷ xs) e = absurd (cc e)

module _ {H : Type 0} where
  -- the rows after a set is replaced
  pub rows_set : (sets : Sets H) (i : ℕ) (new : IndexSet Row H) (rows : List Row) → new.keys ≡ rows
      → rows_of (slice_set sets i new) ≡ slice_set (rows_of sets) i rows
  rows_set sets i new rows are = map-set (λ s. s.keys) sets i new ∙ ap (slice_set (rows_of sets) i) are

  -- the row is in one of the sets
  pub in_any : (sets : Sets H) (q : Row) → list_any (λ s. list_any (same_row q) s.keys) sets ≡ is_in_any (rows_of sets) q
  in_any [] q = refl
  in_any (s ∷ sets) q = ap (λ b. list_any (same_row q) s.keys || b) (in_any sets q)

  -- the rows of a set
  pub rows_there : (sets : Sets H) (i : ℕ) (d : IndexSet Row H) → i < length sets → get_or (rows_of sets) i [] ≡ (get_or sets i d).keys
  rows_there sets i d less = get_or-map (λ s. s.keys) sets i d [] less

  -- a set is taken out, keeps the rows that pass, and is put back
  pub kept_alone : (sets : Sets H) (i : ℕ) (d none kept : IndexSet Row H) (p : List (List Row) → Row → Bool) → i < length sets → none.keys ≡ []
      → kept.keys ≡ filter (p (rows_of (slice_set sets i none))) (get_or sets i d).keys
      → rows_of (slice_set (slice_set sets i none) i kept)
      ≡ slice_set (rows_of sets) i (filter (p (slice_set (rows_of sets) i [])) (get_or (rows_of sets) i []))
  kept_alone sets i d none kept p less empty keeps =
      ap rows_of (set_twice sets i none kept) ∙ rows_set sets i kept _ (keeps ∙ ap (λ xs. filter (p xs) (get_or sets i d).keys) (rows_set sets i none [] empty)
      ∙ ap (filter (p (slice_set (rows_of sets) i []))) (sym (rows_there sets i d less)))

  pub room_at : (sets : Sets H) (i : ℕ) (new : IndexSet Row H) → 0 < spare new → HasRoom (slice_set sets i new) i
  room_at [] i new room set e = absurd (cc e)
  room_at (s ∷ ss) zero new room set e = subst (λ (x : IndexSet Row H). 0 < spare x) (some_is e) room
  room_at (s ∷ ss) (suc i) new room set e = room_at ss i new room set e

  module _ (sets : Sets H) (i : ℕ) (new : IndexSet Row H) (less : i < length sets) where
    -- whether a row is in a set after one is replaced, by whether it was and whether it is that set
    replaced : (f : Bool → Bool → Bool) → ((a : Bool) → f false a ≡ a) → (q : Row) → list_any (same_row q) new.keys ≡ f true (is_in sets i q) → (u : ℕ)
        → is_in (slice_set sets i new) u q ≡ f (u == i) (is_in sets u q)
    replaced f idle q here u =
        ap (λ xs. list_any (same_row q) (get_or xs u [])) (map-set (λ s. s.keys) sets i new)
        ∙ split (u == i)
        (λ e. ap (λ k. list_any (same_row q) (get_or (slice_set (rows_of sets) i new.keys) k [])) (same_number u i e)
        ∙ ap (list_any (same_row q)) (get_or-set_same (rows_of sets) i new.keys [] (subst (λ n. i < n) (sym (length-map sets (λ s. s.keys))) less))
        ∙ here ∙ ap (λ k. f true (is_in sets k q)) (sym (same_number u i e)) ∙ sym (ap (λ b. f b (is_in sets u q)) e))
        (λ e. ap (list_any (same_row q)) (get_or-set_other (rows_of sets) i u new.keys [] (λ same. clash (number_same u i same) e))
        ∙ sym (ap (λ b. f b (is_in sets u q)) e ∙ idle (is_in sets u q)))

    -- a row is added or removed
    pub is_in_updated : (d : IndexSet Row H) (row : Row) (x : Bool)
        → ((q : Row) → list_any (same_row q) new.keys ≡ cond (same_row row q) x (list_any (same_row q) (get_or sets i d).keys)) → (u : ℕ) (q : Row)
        → is_in (slice_set sets i new) u q ≡ cond ((u == i) && same_row row q) x (is_in sets u q)
    is_in_updated d row x has u q =
        replaced (λ b a. cond (b && same_row row q) x a) (λ a. refl) q
        (has q ∙ ap (λ ks. cond (same_row row q) x (list_any (same_row q) ks)) (sym (get_or-map (λ s. s.keys) sets i d [] less))) u

pub cond-true : (a b : Bool) → cond b true a ≡ (a || b)
cond-true a true = sym (or-true a)
cond-true a false = sym (or-false a)

pub cond-false : (a b : Bool) → cond b false a ≡ (a && not b)
cond-false a true = sym (and-false a)
cond-false a false = sym (and-true a)
