use Rattle.gl_interpreter.proofs.Words.{flat_map, Hands, script_of, take, waiter_row}
use Rattle.gl_interpreter.proofs.listings.put_each_waiter.Given as goal

abbrev pub invariant-loop-slot : goal.invariant-loop-slot
invariant-loop-slot g l = Hands (g.W.Write.contents l.fn.writer) l.fn.sink (g.W.Write.contents l.writer) l.sink
    (flat_map (waiter_row (script_of l.desk)) (take l.slot-index l.queue))
