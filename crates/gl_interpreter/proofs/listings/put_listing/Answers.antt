use Rattle.gl_interpreter.proofs.Words.{◌++◌, codes, deadlock_rows, refl, script_of}
use Rattle.gl_interpreter.specs.Rows.{txn_rows}
use Rattle.gl_interpreter.specs.SoFar.{IsShown}
use Rattle.gl_interpreter.proofs.Writing.{Hands-then}
use Rattle.gl_interpreter.proofs.listings.put_listing.Goals as goal

pub returns-in-Txns : goal.returns-in-Txns
unfolding IsShown
returns-in-Txns g c =
    let s = script_of c.args.desk.now in
    rw c.in-Txns.is (codes "ok\n" ++ txn_rows s, refl, Hands-then _ _ _ _ _ _ _ _ c.put.ensures c.put_txns.ensures)

pub returns-in-Cycle : goal.returns-in-Cycle
unfolding IsShown
returns-in-Cycle g c =
    let s = script_of c.args.desk.now in
    rw c.in-Cycle.is (
      codes "ok\n" ++ deadlock_rows s s.deadlock.victim s.deadlock.cycle.items,
      refl,
      Hands-then _ _ _ _ _ _ _ _ c.put-in-Cycle.ensures c.put_deadlock.ensures,
    )
