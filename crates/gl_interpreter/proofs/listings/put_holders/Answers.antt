use Rattle.gl_interpreter.proofs.Words.{◌++◌, [], ◌∙◌, ◌∷◌, ◌≡◌, ap, codes, first_refusal, first_unused, flat_map, group_tests, holder_row, holds, members}
use Rattle.gl_interpreter.proofs.Words.{node_id, node_of, refusal_line, script_of, slots_of, slots_where, sym}
use Rattle.gl_interpreter.specs.SoFar.{IsShown}
use Rattle.gl_interpreter.proofs.RowByRow.{goes, listed_refusal, listed_rows, refuses, slots_same}
use Rattle.gl_interpreter.proofs.Writing.{Hands-then}
use Rattle.gl_interpreter.proofs.listings.put_holders.Goals as goal

pub returns-in-Ok : goal.returns-in-Ok
unfolding IsShown
returns-in-Ok g c =
    let s = script_of c.args.desk.now in
    let n = node_of c.args.node.now in
    let id = c.node_id-id.result in
    let is : id ≡ node_id s n = c.node_id-id.ensures in
    let rows = ap (flat_map (holder_row s id)) (slots_same c.in-Ok.slots _ c.in-Ok.ensures.holders)
    ∙ ap (λ i. flat_map (holder_row s i) (slots_where (holds (members s.locks i)))) is in
    let none = ap (λ i. first_refusal (group_tests s.locks i)) (sym is) ∙ goes _ c.holders.result c.in-Ok.slots c.holders.ensures.refused c.in-Ok.is in (
      codes "ok\n" ++ flat_map (holder_row s id) (slots_of c.in-Ok.slots),
      listed_rows _ _ _ _ none rows,
      Hands-then _ _ _ _ _ _ _ _ c.put.ensures c.put_each_holder.ensures,
    )

pub returns-in-Err : goal.returns-in-Err
unfolding IsShown
returns-in-Err g c =
    let s = script_of c.args.desk.now in
    let n = node_of c.args.node.now in
    let is = c.node_id-id.ensures in
    let refused = ap (λ i. first_refusal (group_tests s.locks i)) (sym is)
    ∙ refuses _ c.holders.result c.in-Err.refusal c.holders.ensures.refused c.in-Err.is in
    (refusal_line c.in-Err.refusal (first_unused s (n ∷ [])), listed_refusal _ _ _ _ refused, c.put_no_node.ensures)
