-- The laws of the modes, and what other crates cite of compatibility, order and supremum.
use Rattle.std.proofs.Common.{◌≡◌, ◌≢◌, ◌&&◌, Bool, true, false, not, refl, ap}
use Rattle.gl_modes.specs.declared.mode.Mode.{Mode}
use Rattle.gl_modes.specs.declared.mode.Mode.TheVariants.{NL, IS, IX, S, SIX, X}
use Rattle.gl_modes.specs.Modes.{are_compatible, supremum, is_at_least, same_mode}
use Rattle.gl_modes.specs.Laws.{CompatibilityIsSymmetric, SupremumIsLeast, SupremumIsTested}
use Rattle.gl_modes.proofs.Each.{every-true, every2-true, every3-true, same, same-equal, implies, implied}

-- `same_mode` is equality, both ways

pub same_mode-equal : (a b : Mode) → same_mode a b ≡ true → a ≡ b
same_mode-equal NL NL h = refl
same_mode-equal IS IS h = refl
same_mode-equal IX IX h = refl
same_mode-equal S S h = refl
same_mode-equal SIX SIX h = refl
same_mode-equal X X h = refl
same_mode-equal _ _ h = cc

not-false : (a : Bool) → not a ≡ true → a ≡ false
not-false true h = cc
not-false false h = refl

pub same_mode-refl : (a : Mode) → same_mode a a ≡ true
same_mode-refl a = every-true (λ x. same_mode x x) refl a

-- two modes of which each is at least the other are the same
pub at_least-antisymmetric : (a b : Mode) → is_at_least a b ≡ true → is_at_least b a ≡ true → a ≡ b
at_least-antisymmetric a b h k =
    same_mode-equal a b (implied _ _ (implied _ _ (every2-true (λ x y. implies (is_at_least x y) (implies (is_at_least y x) (same_mode x y))) refl a b) h) k)

pub at_least-refl : (a : Mode) → is_at_least a a ≡ true
at_least-refl a = every-true (λ x. is_at_least x x) refl a

pub at_least-transitive : (a b c : Mode) → is_at_least a b ≡ true → is_at_least b c ≡ true → is_at_least a c ≡ true
at_least-transitive a b c h k =
    implied _ _ (implied _ _ (every3-true (λ x y z. implies (is_at_least x y) (implies (is_at_least y z) (is_at_least x z))) refl a b c) h) k

-- the laws

pub compatible-symmetric : CompatibilityIsSymmetric
compatible-symmetric a b = same-equal _ _ (every2-true (λ x y. same (are_compatible x y) (are_compatible y x)) refl a b)

pub supremum-least : SupremumIsLeast
supremum-least c a b =
    same-equal _ _ (every3-true (λ z x y. same (is_at_least z (supremum x y)) (is_at_least z x && is_at_least z y)) refl c a b)

pub supremum-tested : SupremumIsTested
supremum-tested c a b =
    same-equal _ _ (every3-true (λ z x y. same (are_compatible z (supremum x y)) (are_compatible z x && are_compatible z y)) refl c a b)

pub supremum-tested_left : (a b m : Mode) → are_compatible (supremum a b) m ≡ (are_compatible a m && are_compatible b m)
supremum-tested_left a b m =
    same-equal _ _ (every3-true (λ x y z. same (are_compatible (supremum x y) z) (are_compatible x z && are_compatible y z)) refl a b m)

-- a lesser mode is compatible with whatever a mode is compatible with
pub lesser-compatible : (a b m : Mode) → is_at_least a b ≡ true → are_compatible a m ≡ true → are_compatible b m ≡ true
lesser-compatible a b m h =
    implied _ _ (implied _ _ (every3-true (λ x y z. implies (is_at_least x y) (implies (are_compatible x z) (are_compatible y z))) refl a b m) h)

pub supremum-associative : (a b c : Mode) → supremum (supremum a b) c ≡ supremum a (supremum b c)
supremum-associative a b c =
    same_mode-equal _ _ (every3-true (λ x y z. same_mode (supremum (supremum x y) z) (supremum x (supremum y z))) refl a b c)

pub supremum-commutes : (a b : Mode) → supremum a b ≡ supremum b a
supremum-commutes a b = same_mode-equal _ _ (every2-true (λ x y. same_mode (supremum x y) (supremum y x)) refl a b)

pub supremum-NL : (a : Mode) → supremum a NL ≡ a
supremum-NL a = same_mode-equal _ _ (every-true (λ x. same_mode (supremum x NL) x) refl a)

pub supremum-above : (a b : Mode) → is_at_least (supremum a b) a ≡ true
supremum-above a b = every2-true (λ x y. is_at_least (supremum x y) x) refl a b

pub supremum-above_right : (a b : Mode) → is_at_least (supremum a b) b ≡ true
supremum-above_right a b = every2-true (λ x y. is_at_least (supremum x y) y) refl a b

-- a is at least b exactly if their supremum is a
pub supremum-covers : (a b : Mode) → same_mode (supremum a b) a ≡ is_at_least a b
supremum-covers a b = same-equal _ _ (every2-true (λ x y. same (same_mode (supremum x y) x) (is_at_least x y)) refl a b)

-- the greater mode takes the place of a lesser one in a supremum
pub supremum-raised : (m a g : Mode) → is_at_least m a ≡ true → supremum m g ≡ supremum (supremum a g) m
supremum-raised m a g h =
    same_mode-equal _ _ (implied _ _ (every3-true (λ x y z. implies (is_at_least x y) (same_mode (supremum x z) (supremum (supremum y z) x))) refl m a g) h)

-- no lock

pub NL-compatible : (a : Mode) → are_compatible a NL ≡ true
NL-compatible a = every-true (λ x. are_compatible x NL) refl a

pub NL-compatible_left : (a : Mode) → are_compatible NL a ≡ true
NL-compatible_left a = refl

pub not_NL : (a : Mode) → a ≢ NL → same_mode a NL ≡ false
not_NL NL h = absurd (h refl)
not_NL IS h = refl
not_NL IX h = refl
not_NL S h = refl
not_NL SIX h = refl
not_NL X h = refl

-- a mode at least one that is a lock is a lock
pub at_least-not_NL : (a b : Mode) → is_at_least a b ≡ true → same_mode b NL ≡ false → same_mode a NL ≡ false
at_least-not_NL a b h k =
    not-false _ (implied _ _ (implied _ _
    (every2-true (λ x y. implies (is_at_least x y) (implies (not (same_mode y NL)) (not (same_mode x NL)))) refl a b) h) (ap not k))

pub supremum-not_NL : (a b : Mode) → same_mode b NL ≡ false → same_mode (supremum a b) NL ≡ false
supremum-not_NL a b = at_least-not_NL (supremum a b) b (supremum-above_right a b)
