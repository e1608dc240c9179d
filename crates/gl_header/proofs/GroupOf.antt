-- The group mode is the least mode that is each member's or greater.
use Rattle.gl_header.proofs.Words.{◌&&◌, ◌+◌, ◌<◌, [], ◌∙◌, ◌∷◌, ◌≡◌, ◌≤◌, ⊎_elim, ap, ap₂, arith, cases_eq, group_of, is_at_least, IsWithin, List, Members}
use Rattle.gl_header.proofs.Words.{Mode, most_slots, NL, range_with_len, refl, slot_limit, suc, supremum, supremum-above, true, zero, ℕ}
use Rattle.std.specs.List.{fold}
use Rattle.gl_modes.proofs.Each.{every-true}
use Rattle.gl_modes.proofs.ModeLemmas.{at_least-antisymmetric, at_least-refl, at_least-transitive, supremum-above_right, supremum-least}
use Rattle.gl_header.proofs.Ranges.{below_or_not}
use Rattle.gl_header.proofs.Fits.{within-limit}

pub at_least-NL : (a : Mode) → is_at_least a NL ≡ true
at_least-NL a = every-true (λ x. is_at_least x NL) refl a

raised : Members → Mode → List ℕ → Mode
raised g a us = fold (λ m u. supremum m (g u)) a us

raised-start : (g : Members) (us : List ℕ) (a : Mode) → is_at_least (raised g a us) a ≡ true
unfolding raised
raised-start g [] a = at_least-refl a
raised-start g (u ∷ us) a =
    at_least-transitive _ (supremum a (g u)) a (raised-start g us (supremum a (g u))) (supremum-above a (g u))

raised-each : (g : Members) (k n : ℕ) (a : Mode) (u : ℕ) → k ≤ u → u < k + n → is_at_least (raised g a (range_with_len k n)) (g u) ≡ true
unfolding raised
raised-each g k zero a u l m = absurd (omega arith)
raised-each g k (suc n) a u l m =
    ⊎_elim
    (λ e. at_least-transitive _ (supremum a (g k)) (g u) (raised-start g (range_with_len (k + 1) n) (supremum a (g k)))
    (ap (λ x. is_at_least (supremum a (g k)) (g x)) e ∙ supremum-above_right a (g k)))
    (λ ne. raised-each g (k + 1) n (supremum a (g k)) u (omega arith) (omega arith))
    (cases_eq u k)

raised-least : (g : Members) (us : List ℕ) (a n : Mode) → is_at_least n a ≡ true → ((u : ℕ) → is_at_least n (g u) ≡ true) → is_at_least n (raised g a us) ≡ true
unfolding raised
raised-least g [] a n h all = h
raised-least g (u ∷ us) a n h all =
    raised-least g us (supremum a (g u)) n (supremum-least n a (g u) ∙ ap₂ (λ x y. x && y) h (all u)) all

-- the group mode is every member's mode or greater
pub group_of-above : (most : ℕ) (g : Members) → IsWithin most g → (u : ℕ) → is_at_least (group_of most g) (g u) ≡ true
unfolding raised
group_of-above most g w u =
    ⊎_elim
    (λ lt. raised-each g 0 most NL u (omega arith) (omega arith))
    (λ le. ap (is_at_least (group_of most g)) (w u le) ∙ at_least-NL (group_of most g))
    (below_or_not u most)

-- and no greater than any other mode of which that holds
pub group_of-least : (most : ℕ) (g : Members) (n : Mode) → ((u : ℕ) → is_at_least n (g u) ≡ true) → is_at_least n (group_of most g) ≡ true
unfolding raised
group_of-least most g n all = raised-least g (range_with_len 0 most) NL n (at_least-NL n) all

-- so the least mode of these is the group mode
pub group_of-unique : (most : ℕ) (g : Members) (n : Mode) → IsWithin most g → ((u : ℕ) → is_at_least n (g u) ≡ true)
    → ((x : Mode) → ((u : ℕ) → is_at_least x (g u) ≡ true) → is_at_least x n ≡ true) → n ≡ group_of most g
group_of-unique most g n w above least =
    at_least-antisymmetric n (group_of most g) (group_of-least most g n above) (least (group_of most g) (group_of-above most g w))

-- two limits above all members give the same group mode
pub group_of-limits : (a b : ℕ) (g : Members) → IsWithin a g → IsWithin b g → group_of a g ≡ group_of b g
group_of-limits a b g w v = group_of-unique b g (group_of a g) v (group_of-above a g w) (group_of-least a g)

pub group_of-limit : (most : ℕ) (g : Members) → most ≤ most_slots → IsWithin most g → group_of most g ≡ group_of slot_limit g
group_of-limit most g le w = group_of-limits most slot_limit g w (within-limit most g le w)
