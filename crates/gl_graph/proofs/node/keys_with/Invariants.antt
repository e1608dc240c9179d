use Rattle.gl_graph.proofs.Words.{drop, ◌++◌, ◌≡◌}
use Rattle.arrayvec.specs.ArrayVec.{array_vec_len}
use Rattle.gl_graph.proofs.node.keys_with.Given as goal

abbrev pub invariant-loop-one : goal.invariant-loop-one
invariant-loop-one l = record { so_far : l.all.items ++ drop l.one-index l.keys ≡ l.keys; many : array_vec_len l.all ≡ l.one-index }
