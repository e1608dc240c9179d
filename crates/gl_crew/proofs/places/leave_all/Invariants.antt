use Rattle.std.specs.Prelude.{◌≡◌, ◌≤◌, All, Some, is_some, map, true, vec_len, vec_capacity}
use Rattle.gl_crew.proofs.places.leave_all.Given as goal

abbrev pub invariant-loop-place : goal.invariant-loop-place
invariant-loop-place g l = record {
  left : All (λ s. is_some s.share ≡ true) l.place-iterator.rest.items;
  shares : map (λ n. Some n) l.back.shares.items ≡ map (λ s. s.share) l.yielded;
  faults : l.back.faults.items ≡ map (λ s. s.fault) l.yielded;
  fits : (vec_len l.fn.places ≤ vec_capacity l.back.shares) × (vec_len l.fn.places ≤ vec_capacity l.back.faults);
  room : vec_capacity l.fn.back.shares ≤ vec_capacity l.back.shares;
}
