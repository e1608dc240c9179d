use Rattle.gl_interpreter.proofs.Words.{◌++◌, ◌∙◌, ◌∷◌, ap, blocker_row, codes, first_refusal, flat_map, living_tests, refusal_line, script_of, slots_of}
use Rattle.gl_interpreter.proofs.Words.{slots_where, sym, TxnId}
use Rattle.gl_model.specs.State.{waits_for}
use Rattle.gl_interpreter.specs.SoFar.{IsShown}
use Rattle.gl_interpreter.proofs.RowByRow.{goes, listed_refusal, listed_rows, refuses, slots_same}
use Rattle.gl_interpreter.proofs.Writing.{Hands-then}
use Rattle.gl_interpreter.proofs.listings.put_waits.Goals as goal

pub returns-in-Ok : goal.returns-in-Ok
unfolding IsShown
returns-in-Ok g c =
    let s = script_of c.args.desk.now in
    let is = c.txn_id.ensures in
    let rows = ap (flat_map (blocker_row s)) (slots_same c.in-Ok.slots _ c.in-Ok.ensures.waits)
    ∙ ap (λ (t : TxnId). flat_map (blocker_row s) (slots_where (waits_for s.locks t.slot))) is in
    let none = ap (λ t. first_refusal (living_tests s.locks t)) (sym is) ∙ goes _ c.waits_for.result c.in-Ok.slots c.waits_for.ensures.refused c.in-Ok.is in (
      codes "ok\n" ++ flat_map (blocker_row s) (slots_of c.in-Ok.slots),
      listed_rows _ _ _ _ none rows,
      Hands-then _ _ _ _ _ _ _ _ c.put.ensures c.put_each_blocker.ensures,
    )

pub returns-in-Err : goal.returns-in-Err
unfolding IsShown
returns-in-Err g c =
    let s = script_of c.args.desk.now in
    let is = c.txn_id.ensures in
    let refused = ap (λ t. first_refusal (living_tests s.locks t)) (sym is)
    ∙ refuses _ c.waits_for.result c.in-Err.refusal c.waits_for.ensures.refused c.in-Err.is in
    (refusal_line c.in-Err.refusal (32 ∷ c.args.name.now.items), listed_refusal _ _ _ _ refused, c.put_no_txn.ensures)
