use Rattle.gl_interpreter.proofs.Words.{◌<◌, arith, Hands, length, NL, no_slots, script_of, Stuck, subst, wait_row}
use Rattle.gl_interpreter.proofs.RowByRow.{more_rows}
use Rattle.gl_interpreter.proofs.Writing.{Hands-none, Hands-then}
use Rattle.gl_interpreter.proofs.listings.put_stuck.Goals as goal

pub loop-other-init : goal.loop-other-init
loop-other-init g c = Hands-none _ _

pub loop-other-preserved : goal.loop-other-preserved
loop-other-preserved g c =
    let all = c.args.all.now in
    let i = c.loop-other.other-index in
    let low : i < length all = omega (arith, c.loop-other-test.true) in
    let d : Stuck = record { txn = record { slot = 0; age = 0 }; node = record { key = 0; birth = 0 }; wanted = NL; waits_for = no_slots } in
    subst (Hands (g.W.Write.contents c.args.writer.now) c.args.sink.now (g.W.Write.contents c.put_stuck_for.new.writer) c.put_stuck_for.new.sink)
    (more_rows (wait_row (script_of c.args.desk.now) c.args.stuck) all i d _ low)
    (Hands-then _ _ _ _ _ _ _ _ c.loop-other.invariant c.put_stuck_for.ensures)
