use Rattle.gl_interpreter.proofs.Words.{◌<◌, arith, Hands, length, NL, script_of, subst, waiter_row}
use Rattle.gl_header.specs.Header.{Waiter}
use Rattle.gl_interpreter.proofs.RowByRow.{more_rows}
use Rattle.gl_interpreter.proofs.Writing.{Hands-none, Hands-then}
use Rattle.gl_interpreter.proofs.listings.put_each_waiter.Goals as goal

pub loop-slot-init : goal.loop-slot-init
loop-slot-init g c = Hands-none _ _

pub loop-slot-preserved : goal.loop-slot-preserved
loop-slot-preserved g c =
    let queue = c.args.queue.now in
    let i = c.loop-slot.slot-index in
    let low : i < length queue = omega (arith, c.loop-slot-test.true) in
    let d : Waiter = (0, NL) in
    subst (Hands (g.W.Write.contents c.args.writer.now) c.args.sink.now (g.W.Write.contents c.put_waiter.new.writer) c.put_waiter.new.sink)
    (more_rows (waiter_row (script_of c.args.desk.now)) queue i d _ low)
    (Hands-then _ _ _ _ _ _ _ _ c.loop-slot.invariant c.put_waiter.ensures)
