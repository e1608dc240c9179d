use Rattle.gl_table.proofs.Words.{◌∙◌, ap, if◌then◌else◌, length, lives, None, rows_of, Some, state_of, sym}
use Rattle.gl_table.proofs.calls.Queries.{passed, row-count}
use Rattle.gl_table.proofs.table.Table.lock_count.Goals as goal

pub returns-in-Some : goal.returns-in-Some
returns-in-Some c =
    let s = state_of c.args.self.now in
    ap Some (c.rows.ensures ∙ row-count c.self.inside.locks.ledger.lists.items c.args.t.slot ∙ ap (λ w. length (rows_of w c.args.t.slot)) c.self.view_is)
    ∙ sym (ap (λ b. if b then Some (length (rows_of c.args.self.now c.args.t.slot)) else None)
    (passed (lives s c.args.t) _ _ (sym c.in-Some.is ∙ c.status.ensures)))
