use Rattle.gl_interpreter.proofs.Words.{flat_map, Hands, lock_row, rows_of, script_of, take}
use Rattle.gl_interpreter.proofs.listings.put_each_lock.Given as goal

abbrev pub invariant-loop-place : goal.invariant-loop-place
invariant-loop-place g l =
    Hands (g.W.Write.contents l.fn.writer) l.fn.sink (g.W.Write.contents l.writer) l.sink
    (flat_map (lock_row (script_of l.desk) l.wait) (take l.place (rows_of l.desk.manager.table l.txn.slot)))
