-- A node that one slot holds and nobody waits for: its law, and the answer to a request there. For the places and the headers.
use Rattle.gl_header.proofs.Words.{◌&&◌, ◌<◌, ◌==◌, [], ◌||◌, ◌∙◌, ◌≡◌, ◌≢◌, ⊎_elim, ap, are_compatible, arith, asked, asked_members, asked_queue, Bool}
use Rattle.gl_header.proofs.Words.{cases_eq, cases_lt, clash, enters, false, fits, fun_ext, Granted, group_of, held_by_one, holds, HoldsTwoModes, if◌then◌else◌}
use Rattle.gl_header.proofs.Words.{inl, inr, is_at_least, is_granted, is_unused, IsLawful, IsLawfulHeader, Members, Mode, most_slots, NL, NL-compatible, nobody}
use Rattle.gl_header.proofs.Words.{not, not_NL, not_true, number_same, placed, refl, same_mode, slot_limit, supremum, sym, true, unused_header, wanted}
use Rattle.gl_header.proofs.Words.{with_mode, ℕ}
use Rattle.gl_modes.proofs.ModeLemmas.{at_least-refl}
use Rattle.gl_modes.proofs.Words.{both, number_other, or_right}
use Rattle.gl_header.specs.declared.header.Asked.TheVariants.{Waiting}
use Rattle.gl_header.proofs.Changed.{nobody-enters}
use Rattle.gl_header.proofs.Fits.{compatible-with_mode, fits-all, fits-from_all, within-limit, within-with_mode}
use Rattle.gl_header.proofs.GroupOf.{at_least-NL, group_of-unique}
use Rattle.gl_header.proofs.Lawful.{lawful-of}
use Rattle.gl_header.proofs.Ranges.{equal_tests}
use Rattle.gl_header.proofs.Unused.{unused-nobody, unused-true}

-- the grants if t alone holds, in the mode m

pub alone-here : (t : ℕ) (m : Mode) → with_mode nobody t m t ≡ m
alone-here t m = ap (λ b. if b then m else NL) (number_same t t refl)

pub alone-there : (t : ℕ) (m : Mode) (u : ℕ) → u ≢ t → with_mode nobody t m u ≡ NL
alone-there t m u ne = ap (λ b. if b then m else NL) (number_other u t ne)

-- the last grant of the one holder counts
pub alone-again : (t : ℕ) (m w : Mode) → with_mode (with_mode nobody t m) t w ≡ with_mode nobody t w
alone-again t m w = fun_ext (λ u. by (u == t))
  where
    by : (b : Bool) → (if b then w else (if b then m else NL)) ≡ (if b then w else NL)
    by true = refl
    by false = refl

-- the law

module _ (t : ℕ) (m : Mode) (below : t < most_slots) (lock : m ≢ NL) where
  alone-two : HoldsTwoModes (with_mode nobody t m)
  alone-two = (m, λ u. ⊎_elim (λ e. inr (inr (ap (with_mode nobody t m) e ∙ alone-here t m))) (λ ne. inl (alone-there t m u ne)) (cases_eq u t))

  alone-listed : (u : ℕ) → (u == t) ≡ holds (with_mode nobody t m) u
  alone-listed u = by (u == t)
    where
      by : (b : Bool) → b ≡ not (same_mode (if b then m else NL) NL)
      by true = sym (ap not (not_NL m lock))
      by false = refl

  alone-group : m ≡ group_of slot_limit (with_mode nobody t m)
  alone-group = group_of-unique slot_limit (with_mode nobody t m) m
      (within-limit most_slots (with_mode nobody t m) (omega arith) (within-with_mode most_slots nobody t m below (λ u le. refl)))
      (λ u. ⊎_elim
      (λ e. ap (is_at_least m) (ap (with_mode nobody t m) e ∙ alone-here t m) ∙ at_least-refl m)
      (λ ne. ap (is_at_least m) (alone-there t m u ne) ∙ at_least-NL m) (cases_eq u t))
      (λ x all. ap (is_at_least x) (sym (alone-here t m)) ∙ all t)

  alone-orderly : IsLawful (with_mode nobody t m) []
  alone-orderly = record {
    orderly = record {
      within = within-limit most_slots (with_mode nobody t m) (omega arith) (within-with_mode most_slots nobody t m below (λ u le. refl));
      compatible = compatible-with_mode nobody t m (λ u v ne. refl) (λ u ne. NL-compatible m);
      distinct = refl;
      valid = refl;
      ordered = refl;
      rise = refl;
    };
    stuck = refl;
  }

  pub alone-lawful : IsLawfulHeader (held_by_one t m)
  alone-lawful = lawful-of (held_by_one t m) (record { two_modes = alone-two; listed = alone-listed; group_is = alone-group }) alone-orderly

  pub alone-used : is_unused (held_by_one t m) ≡ false
  alone-used = not_true (is_unused (held_by_one t m)) (λ u. lock (sym (alone-here t m) ∙ (unused-true (held_by_one t m) alone-lawful u).0 t))

module _ (t : ℕ) (m : Mode) (l : IsLawfulHeader (held_by_one t m)) where
  pub alone-lock : m ≢ NL
  alone-lock e = clash (number_same t t refl) (l.listed t ∙ ap (λ k. not (same_mode k NL)) (alone-here t m ∙ e))

  pub alone-below : t < most_slots
  alone-below = ⊎_elim (λ lt. lt) (λ le. absurd (alone-lock (sym (alone-here t m) ∙ l.members_below t le))) (cases_lt t most_slots)

-- a request if nobody holds

module _ (t : ℕ) (m : Mode) where
  pub free-answer : Granted m ≡ asked unused_header t m
  free-answer = sym (
      ap (λ (g : Members). if enters slot_limit g [] t (supremum (g t) m) then Granted (supremum (g t) m) else Waiting) unused-nobody
      ∙ ap (λ b. if b then Granted m else Waiting) (nobody-enters slot_limit t m))

  pub free-members : with_mode nobody t m ≡ asked_members unused_header t m
  free-members = sym (
      ap (λ (g : Members). if enters slot_limit g [] t (supremum (g t) m) then with_mode g t (supremum (g t) m) else g) unused-nobody
      ∙ ap (λ b. if b then with_mode nobody t m else nobody) (nobody-enters slot_limit t m))

  pub free-queue : [] ≡ asked_queue unused_header t m
  free-queue = sym (
      ap (λ (g : Members). if enters slot_limit g [] t (supremum (g t) m) then [] else placed g [] t (supremum (g t) m)) unused-nobody
      ∙ ap (λ b. if b then [] else placed nobody [] t m) (nobody-enters slot_limit t m))

-- a request of the one holder

module _ (t : ℕ) (m x : Mode) where
  pub own-wanted : supremum m x ≡ wanted (held_by_one t m) t x
  own-wanted = ap (λ k. supremum k x) (sym (alone-here t m))

  pub own-granted : is_granted (held_by_one t m) t x ≡ true
  own-granted = both _ _
      (fits-from_all slot_limit (with_mode nobody t m) t (wanted (held_by_one t m) t x)
      (λ u ne. ap (are_compatible (wanted (held_by_one t m) t x)) (alone-there t m u ne) ∙ NL-compatible (wanted (held_by_one t m) t x)))
      (or_right (holds (with_mode nobody t m) t) true refl)

  pub own-answer : Granted (supremum m x) ≡ asked (held_by_one t m) t x
  own-answer = sym (ap (λ b. if b then Granted (wanted (held_by_one t m) t x) else Waiting) own-granted ∙ ap Granted (sym own-wanted))

  pub own-members : with_mode nobody t (supremum m x) ≡ asked_members (held_by_one t m) t x
  own-members = sym (
      ap (λ b. if b then with_mode (with_mode nobody t m) t (wanted (held_by_one t m) t x) else with_mode nobody t m) own-granted
      ∙ (alone-again t m (wanted (held_by_one t m) t x) ∙ ap (with_mode nobody t) (sym own-wanted)))

  pub own-queue : [] ≡ asked_queue (held_by_one t m) t x
  own-queue = sym (ap (λ b. if b then [] else placed (with_mode nobody t m) [] t (wanted (held_by_one t m) t x)) own-granted)

-- a request of another slot is granted if the mode is compatible with the holder's
pub other-granted : (t : ℕ) (m : Mode) (s : ℕ) (x : Mode) → t < most_slots → s ≢ t → are_compatible x m ≡ is_granted (held_by_one t m) s x
other-granted t m s x below ne =
    sym (ap (λ (k : Mode). fits slot_limit (with_mode nobody t m) s (supremum k x) && (not (same_mode k NL) || true)) (alone-there t m s ne)
    ∙ (with-true (fits slot_limit (with_mode nobody t m) s x) ∙ equal_tests _ _ there back))
  where
    with-true : (b : Bool) → (b && true) ≡ b
    with-true true = refl
    with-true false = refl

    back : are_compatible x m ≡ true → fits slot_limit (with_mode nobody t m) s x ≡ true
    back c = fits-from_all slot_limit (with_mode nobody t m) s x (λ u off. ⊎_elim
        (λ e. ap (are_compatible x) (ap (with_mode nobody t m) e ∙ alone-here t m) ∙ c)
        (λ other. ap (are_compatible x) (alone-there t m u other) ∙ NL-compatible x) (cases_eq u t))

    there : fits slot_limit (with_mode nobody t m) s x ≡ true → are_compatible x m ≡ true
    there f = ap (are_compatible x) (sym (alone-here t m)) ∙ fits-all slot_limit (with_mode nobody t m) s x
        (within-limit most_slots (with_mode nobody t m) (omega arith) (within-with_mode most_slots nobody t m below (λ u le. refl))) f t (λ e. ne (sym e))
