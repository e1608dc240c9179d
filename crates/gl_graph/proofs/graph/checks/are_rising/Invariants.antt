use Rattle.gl_graph.proofs.Words.{drop, is_rising, ◌∷◌, ◌≡◌}
use Rattle.gl_graph.proofs.graph.checks.are_rising.Given as goal

abbrev pub invariant-loop-bound : goal.invariant-loop-bound
invariant-loop-bound l = is_rising (l.last ∷ drop l.bound-index l.bounds) ≡ is_rising (0 ∷ l.bounds)
