use Rattle.gl_interpreter.proofs.Words.{flat_map, Hands, living_in, range_with_len, script_of, txn_row}
use Rattle.gl_interpreter.proofs.listings.put_txns.Given as goal

abbrev pub invariant-loop-slot : goal.invariant-loop-slot
invariant-loop-slot g l =
    Hands (g.W.Write.contents l.fn.writer) l.fn.sink (g.W.Write.contents l.writer) l.sink
    (flat_map (λ t. txn_row (script_of l.desk) (living_in (script_of l.desk).locks t)) (range_with_len 0 l.slot))
