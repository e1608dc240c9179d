use Rattle.gl_graph.proofs.Words.{graph_of, ◌-◌, ◌^◌}
use Rattle.gl_graph.proofs.Climb.{IsClimb, never}
use Rattle.gl_graph.proofs.graph.Graph.climbs.Given as goal

abbrev pub invariant-loop-node : goal.invariant-loop-node
invariant-loop-node l = IsClimb (graph_of l.self) never l.fn.from l.found.keys l.at

abbrev pub decreases-loop-node : goal.decreases-loop-node
decreases-loop-node l = 2 ^ 64 - l.at
