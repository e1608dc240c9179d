-- The laws of the modes, as statements.
use Rattle.std.specs.Prelude.{◌≡◌, ◌&&◌, true}
use Rattle.gl_modes.specs.declared.mode.Mode.{Mode}
use Rattle.gl_modes.specs.Modes.{are_compatible, supremum, is_at_least, mode_text}

-- compatibility is symmetric
abbrev pub CompatibilityIsSymmetric : Type 0
CompatibilityIsSymmetric = (a b : Mode) → are_compatible a b ≡ are_compatible b a

-- the order is reflexive, transitive and antisymmetric
pub record ModesAreOrdered : Type 0 where
  pub reflexive : (a : Mode) → is_at_least a a ≡ true
  pub transitive : (a b c : Mode) → is_at_least a b ≡ true → is_at_least b c ≡ true → is_at_least a c ≡ true
  pub antisymmetric : (a b : Mode) → is_at_least a b ≡ true → is_at_least b a ≡ true → a ≡ b

-- a mode is at least the supremum of two exactly if it is at least both
abbrev pub SupremumIsLeast : Type 0
SupremumIsLeast = (c a b : Mode) → is_at_least c (supremum a b) ≡ (is_at_least c a && is_at_least c b)

-- a mode is compatible with the supremum of two exactly if it is with both
abbrev pub SupremumIsTested : Type 0
SupremumIsTested = (m a b : Mode) → are_compatible m (supremum a b) ≡ (are_compatible m a && are_compatible m b)

-- no two modes have the same spelling
abbrev pub SpellingsDiffer : Type 0
SpellingsDiffer = (a b : Mode) → mode_text a ≡ mode_text b → a ≡ b
