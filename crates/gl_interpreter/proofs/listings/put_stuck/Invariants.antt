use Rattle.gl_interpreter.proofs.Words.{flat_map, Hands, script_of, take, wait_row}
use Rattle.gl_interpreter.proofs.listings.put_stuck.Given as goal

abbrev pub invariant-loop-other : goal.invariant-loop-other
invariant-loop-other g l = Hands (g.W.Write.contents l.fn.writer) l.fn.sink (g.W.Write.contents l.writer) l.sink
    (flat_map (wait_row (script_of l.desk) l.stuck) (take l.other-index l.all))
