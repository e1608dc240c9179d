use Rattle.std.specs.Prelude.{◌≡◌, ◌≤◌, All, Some, length, vec_len, vec_capacity}
use Rattle.gl_crew.proofs.places.place_all.Given as goal

abbrev pub invariant-loop-share : goal.invariant-loop-share
invariant-loop-share g l =
    (vec_len l.places ≡ length l.yielded) × (vec_len l.fn.shares ≤ vec_capacity l.places) × All (λ s. s.share ≡ Some 0) l.places.items
