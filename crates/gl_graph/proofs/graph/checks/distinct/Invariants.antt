use Rattle.gl_graph.proofs.Words.{are_distinct, drop, ◌≡◌}
use Rattle.gl_graph.proofs.graph.checks.distinct.Given as goal

abbrev pub invariant-loop-place : goal.invariant-loop-place
invariant-loop-place l = are_distinct (drop l.place l.ids) ≡ are_distinct l.ids
