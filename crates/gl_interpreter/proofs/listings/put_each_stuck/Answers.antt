use Rattle.gl_interpreter.proofs.Words.{◌<◌, arith, Hands, length, NL, no_slots, script_of, Stuck, stuck_rows, subst}
use Rattle.gl_interpreter.proofs.RowByRow.{more_rows}
use Rattle.gl_interpreter.proofs.Writing.{Hands-none, Hands-then}
use Rattle.gl_interpreter.proofs.listings.put_each_stuck.Goals as goal

pub loop-stuck-init : goal.loop-stuck-init
loop-stuck-init g c = Hands-none _ _

pub loop-stuck-preserved : goal.loop-stuck-preserved
loop-stuck-preserved g c =
    let all = c.args.all.now in
    let i = c.loop-stuck.stuck-index in
    let low : i < length all = omega (arith, c.loop-stuck-test.true) in
    let d : Stuck = record { txn = record { slot = 0; age = 0 }; node = record { key = 0; birth = 0 }; wanted = NL; waits_for = no_slots } in
    subst (Hands (g.W.Write.contents c.args.writer.now) c.args.sink.now (g.W.Write.contents c.put_stuck.new.writer) c.put_stuck.new.sink)
    (more_rows (stuck_rows (script_of c.args.desk.now) c.args.all.now) all i d _ low)
    (Hands-then _ _ _ _ _ _ _ _ c.loop-stuck.invariant c.put_stuck.ensures)
