use Rattle.gl_table.proofs.Words.{◌∙◌, ap, if◌then◌else◌, lives, None, rows_of, slice_get, state_of, sym}
use Rattle.gl_table.proofs.calls.Queries.{are_rows, passed, row-at}
use Rattle.gl_table.proofs.table.Table.lock_at.Goals as goal

pub returns-in-Some-clause-row : goal.returns-in-Some-clause-row
returns-in-Some-clause-row c =
    let s = state_of c.args.self.now in
    c.row.ensures ∙ row-at c.self.inside.locks.ledger.lists.items c.args.t.slot c.args.place
    ∙ ap (λ w. slice_get (rows_of w c.args.t.slot) c.args.place) c.self.view_is
    ∙ sym (ap (λ b. if b then slice_get (rows_of c.args.self.now c.args.t.slot) c.args.place else None)
    (passed (lives s c.args.t) _ _ (sym c.in-Some.is ∙ c.status.ensures)))

pub returns-in-Some-clause-rows : goal.returns-in-Some-clause-rows
returns-in-Some-clause-rows c = are_rows c.args.self.now c.law.ensures.lists c.law.ensures.unique c.args.t.slot

pub returns-in-None-clause-rows : goal.returns-in-None-clause-rows
returns-in-None-clause-rows c = are_rows c.args.self.now c.law.ensures.lists c.law.ensures.unique c.args.t.slot
