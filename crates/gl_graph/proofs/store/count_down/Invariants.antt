use Rattle.gl_graph.proofs.Words.{AreRecounted, ◌-◌}
use Rattle.gl_graph.proofs.store.count_down.Given as goal

abbrev pub invariant-loop-n : goal.invariant-loop-n
invariant-loop-n l = AreRecounted (λ children. children - 1) l.initial.nodes l.nodes l.ids l.n-index
