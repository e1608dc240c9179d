use Rattle.gl_graph.proofs.Words.{arith, slice_get-get_or}
use Rattle.gl_graph.proofs.Gone.{gone_more}
use Rattle.gl_graph.proofs.store.remove_all.Goals as goal

pub loop-n-preserved : goal.loop-n-preserved
loop-n-preserved c = grind (arith, slice_get-get_or, gone_more)
