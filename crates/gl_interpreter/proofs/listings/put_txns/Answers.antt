use Rattle.gl_interpreter.proofs.Words.{Hands, List, living_in, script_of, subst, txn_row, ℕ}
use Rattle.gl_interpreter.proofs.RowByRow.{range_rows}
use Rattle.gl_interpreter.proofs.Writing.{Hands-none, Hands-then}
use Rattle.gl_interpreter.proofs.listings.put_txns.Goals as goal

pub loop-slot-init : goal.loop-slot-init
loop-slot-init g c = Hands-none _ _

pub loop-slot-preserved : goal.loop-slot-preserved
loop-slot-preserved g c =
    let s = script_of c.args.desk.now in
    let slot = c.loop-slot.slot in
    let row : ℕ → List ℕ = λ t. txn_row s (living_in s.locks t) in
    subst (Hands (g.W.Write.contents c.args.writer.now) c.args.sink.now (g.W.Write.contents c.put_living.new.writer) c.put_living.new.sink)
    (range_rows row slot)
    (Hands-then _ _ _ _ _ _ _ _ c.loop-slot.invariant c.put_living.ensures)
