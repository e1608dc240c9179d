use Rattle.gl_interpreter.proofs.Words.{◌∙◌, ap, arith, Hands, if◌then◌else◌, lock_row, None, rows_of, script_of, slice_get, subst, sym}
use Rattle.gl_interpreter.proofs.RowByRow.{not_past, row_there}
use Rattle.gl_interpreter.proofs.Writing.{Hands-none, Hands-then}
use Rattle.gl_interpreter.proofs.listings.put_each_lock.Goals.{in-Some, in_default}
use Rattle.gl_interpreter.proofs.listings.put_each_lock.Goals as goal

pub loop-place-init : goal.loop-place-init
loop-place-init g c = Hands-none _ _

pub loop-place-preserved : goal.loop-place-preserved
loop-place-preserved g c =
    let s = script_of c.args.desk.now in
    let rows = rows_of c.args.desk.now.manager.table c.args.txn.slot in
    let place = c.loop-place.place in
    let there = sym (c.lock_at.ensures.row ∙ ap (λ b. if b then slice_get rows place else None) c.requires.lives) in
    elim c.match-lock_at.branch [
      | in-Some w ↦ rw (w.sink-is, w.writer-is)
          (subst (Hands (g.W.Write.contents c.args.writer.now) c.args.sink.now (g.W.Write.contents w.put_lock.new.writer) w.put_lock.new.sink)
          (row_there (lock_row s c.waiting-wait.result) rows place w.in-Some.row (there ∙ w.in-Some.is))
          (Hands-then _ _ _ _ _ _ _ _ c.loop-place.invariant w.put_lock.ensures))
      | in_default w ↦ absurd (not_past rows place (omega (arith, c.loop-place-test.true, c.requires.all)) (there ∙ w.in_default.is))
    ]
