-- Whether something may rest in a part.
use Rattle.std.specs.Prelude.{◌≡◌, ◌⊎◌, ℕ, Bool, List}
use Rattle.gl_parts.specs.declared.passing.Mark.{Mark}
use Rattle.gl_parts.specs.Resting.{MayRest}

-- 1 or 0
abbrev pub TellsMayRest : Bool → ℕ → List Mark → ℕ → Type 0
TellsMayRest commits most marks r = ((r ≡ 1) × MayRest commits most marks) ⊎ ((r ≡ 0) × (MayRest commits most marks → ⊥))
