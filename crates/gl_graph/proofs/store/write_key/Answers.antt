use Rattle.gl_graph.proofs.Words.{arith}
use Rattle.gl_graph.proofs.SameParents.{key_parents}
use Rattle.gl_graph.proofs.store.write_key.Goals as goal

pub set_parent-requires : goal.set_parent-requires
set_parent-requires c = grind (arith, key_parents)
