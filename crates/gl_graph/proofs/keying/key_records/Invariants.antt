use Rattle.gl_graph.proofs.Words.{get, length, slice_get, Some, Stored, ℕ, ◌≡◌, ◌≤◌}
use Rattle.gl_graph.specs.Keying.{AreKeyed, interval_in_body}
use Rattle.gl_graph.proofs.keying.key_records.Given as goal

-- the first records are keyed, and the bodies of the others are as they were
abbrev pub invariant-loop-place : goal.invariant-loop-place
invariant-loop-place l = record {
  keyed : (x : Stored) → get l.initial.nodes l.index ≡ Some x → AreKeyed l.initial.nodes l.nodes (interval_in_body x.body) l.records l.keys l.place;
  many : length l.bodies.items ≡ length l.initial.bodies.items;
  rest : (k : ℕ) → l.place ≤ k → slice_get l.bodies.items k ≡ slice_get l.initial.bodies.items k;
}
