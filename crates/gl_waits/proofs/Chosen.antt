-- The latest of the slots that were tried so far, from the lowest on.
use Rattle.gl_waits.proofs.Words.{◌&&◌, ◌<◌, ◌==◌, ◌↔◌, ◌∙◌, ◌≡◌, ◌≢◌, ◌≤◌, ◌⊎◌, ⊎_elim, and_parts, arith, cases_eq, false, has_slot, IfSome, inl, inr}
use Rattle.gl_waits.proofs.Words.{is_earlier, IsLowestLatest, IsTrue, most_slots, nat_tests, None, not, Option, refl, Slots, Some, subst, sym, true, ℕ}
use Rattle.std.proofs.Common.{IsNone}
use Rattle.std.specs.Option.{option_map_or}
use Rattle.gl_slots.specs.Slots.{HasNoSlot, IsLowest}
use Rattle.gl_waits.proofs.Earlier.{earlier-itself, earlier-not_back, earlier-over, latest-from, not_later}

-- v was tried; of those tried none is later, and none as late is below it; nor is any that is left
pub record IsBestTaken (set left : Slots) (since age : ℕ → ℕ) (v : ℕ) : Type 0 where
  pub low : v < most_slots
  pub member : has_slot set v ≡ true
  pub greatest : (u : ℕ) → has_slot set u ≡ true → has_slot left u ≡ false → is_earlier since age v u ≡ false
  pub first : (u : ℕ) → has_slot set u ≡ true → has_slot left u ≡ false → is_earlier since age u v ≡ false → v ≤ u
  pub before : (u : ℕ) → has_slot left u ≡ true → v < u

-- the chosen slot of those tried
abbrev pub IsChosen : Slots → Slots → (ℕ → ℕ) → (ℕ → ℕ) → Option ℕ → Type 0
IsChosen set left since age None = (u : ℕ) → has_slot set u ≡ has_slot left u
IsChosen set left since age (Some v) = IsBestTaken set left since age v

-- one more slot is tried, the lowest that is left
module _ (set left left' : Slots) (since age : ℕ → ℕ) (slot : ℕ) (lowest : IsLowest left slot)
    (within : (u : ℕ) → has_slot left u ≡ true → has_slot set u ≡ true)
    (taken : (u : ℕ) → has_slot left' u ≡ (has_slot left u && not (u == slot))) where
  gone : (u : ℕ) → has_slot left' u ≡ false → (has_slot left u ≡ false) ⊎ (u ≡ slot)
  gone u out = ⊎_elim
      (λ is. inr is)
      (λ ne. inl (let is = taken u in grind (arith, nat_tests)))
      (cases_eq u slot)

  still : (u : ℕ) → has_slot left' u ≡ true → (has_slot left u ≡ true) × (slot < u)
  still u h =
      let both = and_parts (has_slot left u) (not (u == slot)) (sym (taken u) ∙ h) in
      let ne : u ≢ slot = (λ is. let test = both.1 in grind (arith, nat_tests)) in
      let over : (u < slot → ⊥) = λ less. cc (lowest.none_below u less, both.0) in
      (both.0, omega (arith, ne, over))

  itself : (u : ℕ) → u ≡ slot → is_earlier since age slot u ≡ false
  itself u is = subst (λ x. is_earlier since age slot x ≡ false) (sym is) (earlier-itself since age slot)

  -- if it is the first, or later than the chosen one, it is chosen
  pub chosen-later : (chosen : Option ℕ) → IsChosen set left since age chosen
      → option_map_or (λ other. is_earlier since age other slot) chosen true ≡ true → IsChosen set left' since age (Some slot)
  chosen-later None same later = record {
    low = lowest.within;
    member = within slot lowest.member;
    greatest = λ u h out. ⊎_elim (λ no. cc (same u, h, no)) (itself u) (gone u out);
    first = λ u h out e. ⊎_elim (λ no. cc (same u, h, no)) (λ is. omega (arith, is)) (gone u out);
    before = λ u h. (still u h).1;
  }
  chosen-later (Some v) best later = record {
    low = lowest.within;
    member = within slot lowest.member;
    greatest = λ u h out. ⊎_elim (λ no. earlier-not_back since age u slot (over u h no)) (itself u) (gone u out);
    first = λ u h out e. ⊎_elim (λ no. cc (over u h no, e)) (λ is. omega (arith, is)) (gone u out);
    before = λ u h. (still u h).1;
  }
    where
      over : (u : ℕ) → has_slot set u ≡ true → has_slot left u ≡ false → is_earlier since age u slot ≡ true
      over u h out = earlier-over since age u v slot (best.greatest u h out) later

  -- else the chosen one stays
  pub chosen-stays : (chosen : Option ℕ) → IsChosen set left since age chosen
      → option_map_or (λ other. is_earlier since age other slot) chosen true ≡ false → IsChosen set left' since age chosen
  chosen-stays None same older = cc older
  chosen-stays (Some v) best older = record {
    low = best.low;
    member = best.member;
    greatest = λ u h out. ⊎_elim (best.greatest u h) (λ is. subst (λ x. is_earlier since age v x ≡ false) (sym is) older) (gone u out);
    first = λ u h out e. ⊎_elim (λ no. best.first u h no e) (λ is. let over = best.before slot lowest.member in omega (arith, is, over)) (gone u out);
    before = λ u h. best.before u (still u h).0;
  }

  -- the slots left are of the set
  pub still-within : (u : ℕ) → has_slot left' u ≡ true → has_slot set u ≡ true
  still-within u h = within u (still u h).0

-- if none is left, the chosen slot is the latest of the set, and none is chosen only from the empty set
module _ (set left : Slots) (since age : ℕ → ℕ) (over : HasNoSlot left) where
  pub chosen-none : (chosen : Option ℕ) → IsChosen set left since age chosen → IsNone chosen ↔ HasNoSlot set
  chosen-none None same = ((λ h u. same u ∙ over u), (λ e. refl))
  chosen-none (Some v) best = ((λ h. cc h), (λ e. cc (e v, best.member)))

  pub chosen-latest : (chosen : Option ℕ) → IsChosen set left since age chosen → IfSome chosen (IsLowestLatest (λ u. IsTrue (has_slot set u)) since age)
  chosen-latest None same = tt
  chosen-latest (Some v) best = record {
    youngest = latest-from since age (λ u. IsTrue (has_slot set u)) v best.member (λ u h. best.greatest u h (over u));
    lowest = λ u h e. best.first u h.is_member (over u) (not_later since age v u (h.greatest v best.member) (omega (arith, e)));
  }

  pub chosen-low : (chosen : Option ℕ) → IsChosen set left since age chosen → IfSome chosen (λ v. v < most_slots)
  chosen-low None same = tt
  chosen-low (Some v) best = best.low
