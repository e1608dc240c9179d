use Rattle.gl_graph.proofs.Words.{drop, first_cycle, graph_of, ◌≡◌}
use Rattle.gl_graph.proofs.graph.Graph.check_cycles.Given as goal

-- the first cycle is among the parents that are left
abbrev pub invariant-loop-parent : goal.invariant-loop-parent
invariant-loop-parent l = first_cycle (graph_of l.self) l.n (drop l.parent-index l.parents) ≡ first_cycle (graph_of l.self) l.n l.parents
