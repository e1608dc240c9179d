use Rattle.gl_graph.proofs.Words.{arith}
use Rattle.arrayvec.proofs.ArrayVecLemmas.{filter-from_retain}
use Rattle.gl_graph.proofs.node.Body.unlist.Goals as goal

pub returns-in-File : goal.returns-in-File
returns-in-File c = grind (arith, filter-from_retain)
