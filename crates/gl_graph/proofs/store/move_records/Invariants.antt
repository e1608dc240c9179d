use Rattle.gl_graph.proofs.Words.{get, node_passed, option_map, slab_len, ℕ, ◌<◌, ◌≡◌, ◌≤◌}
use Rattle.gl_graph.proofs.store.move_records.Given as goal

abbrev pub invariant-loop-at : goal.invariant-loop-at
invariant-loop-at l = record {
  moved : (k : ℕ) → k < l.at → get l.nodes k ≡ option_map (node_passed l.place l.from l.bound l.to) (get l.initial.nodes k);
  rest : (k : ℕ) → l.at ≤ k → get l.nodes k ≡ get l.initial.nodes k;
  len : slab_len l.nodes ≡ slab_len l.initial.nodes;
}
