use Rattle.gl_graph.proofs.Words.{arith}
use Rattle.gl_graph.proofs.Rising.{rising_step}
use Rattle.gl_graph.proofs.graph.checks.are_rising.Goals as goal

pub loop-bound-preserved : goal.loop-bound-preserved
loop-bound-preserved c = grind (arith, rising_step)
