use Rattle.gl_graph.proofs.Words.{drop, ◌++◌, ◌≡◌}
use Rattle.arrayvec.specs.ArrayVec.{array_vec_len}
use Rattle.gl_graph.proofs.node.parents_with.Given as goal

abbrev pub invariant-loop-one : goal.invariant-loop-one
invariant-loop-one l = record { so_far : l.all.items ++ drop l.one-index l.parents ≡ l.parents; many : array_vec_len l.all ≡ l.one-index }
