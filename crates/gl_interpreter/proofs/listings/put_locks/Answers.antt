use Rattle.gl_interpreter.proofs.Words.{◌++◌, [], ◌∙◌, ◌∷◌, ◌≡◌, ap, AreRowsOf, codes, first_refusal, flat_map, List, listed, living_tests, lock_row, LockRow}
use Rattle.gl_interpreter.proofs.Words.{map, None, not, refl, refusal_line, rows_of, script_of, Some, subst, sym, TxnId}
use Rattle.gl_modes.specs.declared.refusal.Refusal.TheVariants.{NoSuchTxn}
use Rattle.gl_graph.specs.Refusals.{where_true}
use Rattle.gl_model.specs.State.{lives, status_of}
use Rattle.gl_table.proofs.calls.Queries.{are_rows, passed}
use Rattle.gl_catalog.specs.Replies.{wait_of}
use Rattle.gl_interpreter.specs.SoFar.{IsShown}
use Rattle.gl_interpreter.proofs.Orders.{nodes_in_order}
use Rattle.gl_interpreter.proofs.RowByRow.{counting_rows, failed, listed_refusal, listed_rows}
use Rattle.gl_interpreter.proofs.Writing.{Hands-then}
use Rattle.gl_interpreter.proofs.listings.put_locks.Goals as goal

pub returns-in-Some : goal.returns-in-Some
unfolding IsShown
returns-in-Some g c =
    let s = script_of c.args.desk.now in
    let v = c.args.desk.now.manager.table in
    let txn = c.txn_id-txn.result in
    let lives_on = passed (lives s.locks txn) _ _ (sym c.in-Some.is ∙ c.lock_count.ensures) in
    let none : first_refusal (living_tests s.locks txn) ≡ None = ap (λ b. first_refusal (where_true (not b) NoSuchTxn ∷ [])) lives_on in
    let text = codes "ok\n" ++ flat_map (lock_row s (wait_of (status_of s.locks txn.slot))) (rows_of v txn.slot) in (
      text,
      subst (λ (t : TxnId). (rows : List LockRow) × AreRowsOf s.locks t.slot rows
          × (map (λ (r : LockRow). r.node) rows ≡ s.orders t.slot) × (text ≡ listed (first_refusal (living_tests s.locks t)) (32 ∷ c.args.name.now.items)
          (flat_map (lock_row s (wait_of (status_of s.locks t.slot))) rows)))
          c.txn_id-txn.ensures (
            rows_of v txn.slot,
            counting_rows c.args.desk.now.manager.accepted _ _ _
                (are_rows v c.law.ensures.lists c.law.ensures.unique txn.slot),
            nodes_in_order v txn.slot,
            listed_rows _ _ _ _ none refl,
          ),
      Hands-then _ _ _ _ _ _ _ _ c.put.ensures c.put_each_lock.ensures,
    )

pub returns-in-None : goal.returns-in-None
unfolding IsShown
returns-in-None g c =
    let s = script_of c.args.desk.now in
    let v = c.args.desk.now.manager.table in
    let txn = c.txn_id-txn.result in
    let ended = failed (lives s.locks txn) _ (sym c.in-None.is ∙ c.lock_count.ensures) in
    let refused : first_refusal (living_tests s.locks txn) ≡ Some NoSuchTxn = ap (λ b. first_refusal (where_true (not b) NoSuchTxn ∷ [])) ended in
    let text = refusal_line NoSuchTxn (32 ∷ c.args.name.now.items) in (
      text,
      subst (λ (t : TxnId). (rows : List LockRow) × AreRowsOf s.locks t.slot rows
          × (map (λ (r : LockRow). r.node) rows ≡ s.orders t.slot) × (text ≡ listed (first_refusal (living_tests s.locks t)) (32 ∷ c.args.name.now.items)
          (flat_map (lock_row s (wait_of (status_of s.locks t.slot))) rows)))
          c.txn_id-txn.ensures (
            rows_of v txn.slot,
            counting_rows c.args.desk.now.manager.accepted _ _ _
                (are_rows v c.law.ensures.lists c.law.ensures.unique txn.slot),
            nodes_in_order v txn.slot,
            listed_refusal _ _ _ _ refused,
          ),
      c.put_no_txn.ensures,
    )
