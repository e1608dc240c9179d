use Rattle.gl_graph.proofs.Words.{drop, graph_of, intervals_of, record_parents, ◌++◌, ◌+◌, ◌≡◌}
use Rattle.arrayvec.specs.ArrayVec.{array_vec_len}
use Rattle.gl_graph.proofs.graph.Graph.record_parents.Given as goal

-- the parents so far, and the intervals of the indexes that are left, are the parents
abbrev pub invariant-loop-place : goal.invariant-loop-place
invariant-loop-place l = record {
  so_far : l.parents.items ++ intervals_of (graph_of l.self) (drop l.place l.index-items) (drop l.place l.keys) ≡ record_parents
      (graph_of l.self) l.fn.file l.keys;
  many : array_vec_len l.parents ≡ l.place + 1;
}
