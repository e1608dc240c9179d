use Rattle.gl_graph.proofs.Words.{AreGone}
use Rattle.gl_graph.proofs.store.remove_all.Given as goal

abbrev pub invariant-loop-n : goal.invariant-loop-n
invariant-loop-n l = AreGone l.initial.nodes l.nodes l.ids l.n-index
