use Rattle.gl_interpreter.proofs.Words.{◌-◌, ◌≤◌, Appends, length, take}
use Rattle.gl_interpreter.proofs.sink.send.Given as goal

abbrev pub invariant-loop-at : goal.invariant-loop-at
invariant-loop-at g l = (l.at ≤ length l.text) × Appends (g.W.Write.contents l.fn.writer) (g.W.Write.contents l.writer) (take l.at l.text)

abbrev pub decreases-loop-at : goal.decreases-loop-at
decreases-loop-at g l = length l.text - l.at
