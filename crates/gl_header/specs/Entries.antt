-- The queue as stored. For the crate.
use Rattle.std.specs.Prelude.{◌≡◌, ◌<◌, ℕ, true, cond, ◌==◌, List, [], ◌∷◌, length}
use Rattle.std.specs.List.{remove, position_or_len}
use Rattle.gl_header.specs.Header.{Waiter, is_waiter, is_among_waiters}

-- the list without the first entry of s
abbrev pub without : List Waiter → ℕ → List Waiter
without [] s = []
without (e ∷ es) s = cond (e.0 == s) es (e ∷ without es s)

-- i is the place of the first entry of s
pub record IsPlaceOf (es : List Waiter) (s i : ℕ) : Type 0 where
  pub there : is_among_waiters s es ≡ true
  pub within : i < length es
  pub first : i ≡ position_or_len (is_waiter s) es
  pub removed : remove es i ≡ without es s
