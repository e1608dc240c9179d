use Rattle.gl_graph.proofs.Words.{drop, with_all, ◌≡◌}
use Rattle.gl_graph.proofs.found.add_missing.Given as goal

abbrev pub invariant-loop-n : goal.invariant-loop-n
invariant-loop-n l = with_all l.found.keys (drop l.n-index l.more) ≡ with_all l.initial.found.keys l.more
