use Rattle.gl_graph.specs.Keying.{AreBodiesFor}
use Rattle.gl_graph.proofs.keying.keyed_bodies.Given as goal

abbrev pub invariant-loop-place : goal.invariant-loop-place
invariant-loop-place l = AreBodiesFor l.nodes l.records l.keys l.bodies.items l.place
