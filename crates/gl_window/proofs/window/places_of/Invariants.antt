use Rattle.gl_window.proofs.Words.{◌≡◌}
use Rattle.std.specs.Prelude.{All}
use Rattle.gl_window.proofs.window.places_of.Given as goal

-- each place so far has the first list as its tag
abbrev pub invariant-loop-place : goal.invariant-loop-place
invariant-loop-place l = All (λ tag. tag ≡ l.first) l.places.items
