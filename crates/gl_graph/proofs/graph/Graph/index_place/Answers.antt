use Rattle.gl_graph.proofs.Words.{arith}
use Rattle.gl_graph.proofs.Rekey.{not_missed}
use Rattle.gl_graph.proofs.graph.Graph.index_place.Goals as goal

pub unreachable-requires : goal.unreachable-requires
unreachable-requires c = grind (arith, not_missed)
