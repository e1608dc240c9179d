use Rattle.gl_interpreter.proofs.Words.{◌-◌, ◌≤◌, length, take}
use Rattle.gl_interpreter.specs.SoFar.{Takes}
use Rattle.gl_interpreter.proofs.script.take_block.Given as goal

abbrev pub invariant-loop-count : goal.invariant-loop-count
invariant-loop-count g l = (l.at ≤ length l.block) × Takes (g.W.Write.contents l.fn.writer) l.fn.tool (g.W.Write.contents l.writer) l.tool (take l.at l.block)

abbrev pub decreases-loop-count : goal.decreases-loop-count
decreases-loop-count g l = length l.block - l.at
