-- The candidates for the victim of a deadlock.
use Rattle.std.specs.Prelude.{ℕ, Bool}
use Rattle.gl_waits.specs.declared.victims.Victims.{Victims}
use Rattle.gl_waits.specs.declared.victims.Victims.TheVariants.{Youngest, Fewest}
use Rattle.gl_waits.specs.Waits.{IsOnCycleOf, IsFreeing}

-- the candidates for t: all on a cycle with it, or only those without whose waits it is on none
abbrev pub IsCandidate : Victims → (ℕ → ℕ → Bool) → ℕ → ℕ → Type 0
IsCandidate Youngest edge t = IsOnCycleOf edge t
IsCandidate Fewest edge t = IsFreeing edge t
