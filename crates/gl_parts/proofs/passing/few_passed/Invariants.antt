use Rattle.std.specs.Prelude.{◌-◌, ◌^◌}
use Rattle.gl_graph.specs.View.{graph_of}
use Rattle.gl_model.specs.State.{is_write}
use Rattle.gl_parts.specs.Passing.{starts}
use Rattle.gl_parts.proofs.Ways.{Passing}
use Rattle.gl_parts.proofs.passing.few_passed.Given as goal

abbrev pub invariant-loop-node : goal.invariant-loop-node
invariant-loop-node l = Passing (is_write l.fn.target.mode) (graph_of l.graph) (starts (graph_of l.graph) l.fn.target) l.found.items l.at

abbrev pub decreases-loop-node : goal.decreases-loop-node
decreases-loop-node l = 2 ^ 64 - l.at
