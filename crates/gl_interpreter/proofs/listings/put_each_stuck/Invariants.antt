use Rattle.gl_interpreter.proofs.Words.{flat_map, Hands, script_of, stuck_rows, take}
use Rattle.gl_interpreter.proofs.listings.put_each_stuck.Given as goal

abbrev pub invariant-loop-stuck : goal.invariant-loop-stuck
invariant-loop-stuck g l = Hands (g.W.Write.contents l.fn.writer) l.fn.sink (g.W.Write.contents l.writer) l.sink
    (flat_map (stuck_rows (script_of l.desk) l.all) (take l.stuck-index l.all))
