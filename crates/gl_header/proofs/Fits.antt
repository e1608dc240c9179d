-- What fits, for any limit below which all members are.
use Rattle.gl_header.proofs.Words.{◌&&◌, ◌<◌, ◌==◌, ◌||◌, ◌∙◌, ◌≡◌, ◌≢◌, ◌≤◌, ⊎_elim, ap, ap₂, are_compatible, arith, Bool, cases_eq, enters, Fits, fits, holds}
use Rattle.gl_header.proofs.Words.{is_empty, IsCompatible, IsWithin, List, Members, Mode, most_slots, nat_tests, NL-compatible, refl, sym, true, Waiter}
use Rattle.gl_header.proofs.Words.{with_mode, ℕ}
use Rattle.gl_modes.proofs.ModeLemmas.{compatible-symmetric}
use Rattle.gl_header.specs.State.{slot_limit}
use Rattle.gl_header.proofs.Ranges.{below_or_not, equal_tests, range-each, range-from_each}

-- the limit of slots, unfolded
pub slot_limit-is : slot_limit ≡ most_slots
unfolding slot_limit
slot_limit-is = refl

-- the same with a greater limit
pub within-more : (a b : ℕ) (g : Members) → a ≤ b → IsWithin a g → IsWithin b g
within-more a b g le w u h = w u (omega arith)

-- one more member or a changed one, below the limit
pub within-with_mode : (most : ℕ) (g : Members) (t : ℕ) (m : Mode) → t < most → IsWithin most g → IsWithin most (with_mode g t m)
within-with_mode most g t m lt w u le = grind (arith, nat_tests, w u)

test-here : (u t : ℕ) (b : Bool) → u ≢ t → ((u == t) || b) ≡ true → b ≡ true
test-here u t b ne h = grind (arith, nat_tests)

test-other : (u t : ℕ) (b : Bool) → (u ≢ t → b ≡ true) → ((u == t) || b) ≡ true
test-other u t b h = ⊎_elim (λ e. grind (arith, nat_tests)) (λ ne. let k = h ne in grind arith) (cases_eq u t)

-- the test of the slots below the limit is the fact on all slots
pub fits-all : (most : ℕ) (g : Members) (t : ℕ) (m : Mode) → IsWithin most g → fits most g t m ≡ true → Fits g t m
fits-all most g t m w h u ne =
    ⊎_elim
    (λ lt. test-here u t _ ne (range-each _ 0 most h u (omega arith) (omega arith)))
    (λ le. ap (are_compatible m) (w u le) ∙ NL-compatible m)
    (below_or_not u most)

pub fits-from_all : (most : ℕ) (g : Members) (t : ℕ) (m : Mode) → Fits g t m → fits most g t m ≡ true
fits-from_all most g t m f = range-from_each _ 0 most (λ u l k. test-other u t _ (f u))

-- two limits above all members give the same test
pub fits-limits : (a b : ℕ) (g : Members) (t : ℕ) (m : Mode) → IsWithin a g → IsWithin b g → fits a g t m ≡ fits b g t m
fits-limits a b g t m w v =
    equal_tests _ _ (λ h. fits-from_all b g t m (fits-all a g t m w h)) (λ h. fits-from_all a g t m (fits-all b g t m v h))

pub enters-limits : (a b : ℕ) (g : Members) (q : List Waiter) (t : ℕ) (m : Mode) → IsWithin a g → IsWithin b g → enters a g q t m ≡ enters b g q t m
enters-limits a b g q t m w v = ap (λ x. x && (holds g t || is_empty q)) (fits-limits a b g t m w v)

-- a limit of at most so many slots, and the limit of slots
pub within-limit : (most : ℕ) (g : Members) → most ≤ most_slots → IsWithin most g → IsWithin slot_limit g
within-limit most g le w = within-more most slot_limit g (rw slot_limit-is le) w

pub fits-limit : (most : ℕ) (g : Members) (t : ℕ) (m : Mode) → most ≤ most_slots → IsWithin most g → fits most g t m ≡ fits slot_limit g t m
fits-limit most g t m le w = fits-limits most slot_limit g t m w (within-limit most g le w)

pub enters-limit : (most : ℕ) (g : Members) (q : List Waiter) (t : ℕ) (m : Mode) → most ≤ most_slots → IsWithin most g
    → enters most g q t m ≡ enters slot_limit g q t m
enters-limit most g q t m le w = enters-limits most slot_limit g q t m w (within-limit most g le w)

-- a mode that fits is granted: the grants stay compatible
pub compatible-with_mode : (g : Members) (t : ℕ) (m : Mode) → IsCompatible g → Fits g t m → IsCompatible (with_mode g t m)
compatible-with_mode g t m all fit u v ne =
    ⊎_elim
    (λ at_u. ⊎_elim (λ at_v. absurd (ne (at_u ∙ sym at_v))) (λ off_v. ap₂ are_compatible (here u at_u) (there v off_v) ∙ fit v off_v) (cases_eq v t))
    (λ off_u. ⊎_elim (λ at_v. ap₂ are_compatible (there u off_u) (here v at_v) ∙ compatible-symmetric (g u) m ∙ fit u off_u)
    (λ off_v. ap₂ are_compatible (there u off_u) (there v off_v) ∙ all u v ne) (cases_eq v t))
    (cases_eq u t)
  where
    here : (u : ℕ) → u ≡ t → with_mode g t m u ≡ m
    here u e = grind (arith, nat_tests)

    there : (u : ℕ) → u ≢ t → with_mode g t m u ≡ g u
    there u off = grind (arith, nat_tests)
