use Rattle.gl_interpreter.proofs.Words.{flat_map, Hands, script_of, take, told_line}
use Rattle.gl_interpreter.proofs.answers.put_notices.Given as goal

abbrev pub invariant-loop-txn : goal.invariant-loop-txn
invariant-loop-txn g l = Hands (g.W.Write.contents l.fn.writer) l.fn.sink (g.W.Write.contents l.writer) l.sink
    (flat_map (told_line (script_of l.desk)) (take l.txn-index l.told))
