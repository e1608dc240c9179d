use Rattle.gl_interpreter.proofs.Words.{◌++◌, [], ◌∙◌, ◌∷◌, ap, codes, first_refusal, first_unused, flat_map, group_tests, node_of, refusal_line, script_of}
use Rattle.gl_interpreter.proofs.Words.{sym, waiter_row}
use Rattle.gl_interpreter.specs.SoFar.{IsShown}
use Rattle.gl_interpreter.proofs.RowByRow.{goes, listed_refusal, listed_rows, refuses}
use Rattle.gl_interpreter.proofs.Writing.{Hands-then}
use Rattle.gl_interpreter.proofs.listings.put_queue.Goals as goal

pub returns-in-Ok : goal.returns-in-Ok
unfolding IsShown
returns-in-Ok g c =
    let s = script_of c.args.desk.now in
    let is = c.node_id.ensures in
    let rows = ap (flat_map (waiter_row s)) (c.in-Ok.ensures.queue ∙ ap s.locks.queue is) in
    let none = ap (λ i. first_refusal (group_tests s.locks i)) (sym is) ∙ goes _ c.queue.result _ c.queue.ensures.refused c.in-Ok.is in (
      codes "ok\n" ++ flat_map (waiter_row s) c.in-Ok.queue.now,
      listed_rows _ _ _ _ none rows,
      Hands-then _ _ _ _ _ _ _ _ c.put.ensures c.put_each_waiter.ensures,
    )

pub returns-in-Err : goal.returns-in-Err
unfolding IsShown
returns-in-Err g c =
    let s = script_of c.args.desk.now in
    let n = node_of c.args.node.now in
    let is = c.node_id.ensures in
    let refused = ap (λ i. first_refusal (group_tests s.locks i)) (sym is) ∙ refuses _ c.queue.result _ c.queue.ensures.refused c.in-Err.is in
    (refusal_line c.in-Err.refusal (first_unused s (n ∷ [])), listed_refusal _ _ _ _ refused, c.put_no_node.ensures)
