use Rattle.gl_table.proofs.Words.{◌∙◌, ap, if◌then◌else◌, lives, None, Some, state_of, sym, TableView}
use Rattle.gl_table.proofs.calls.Queries.{passed}
use Rattle.gl_table.proofs.table.Table.mode.Goals as goal

pub returns-in-Some : goal.returns-in-Some
returns-in-Some c =
    let s = state_of c.args.self.now in
    ap Some (c.mode.ensures ∙ ap (λ (v : TableView). (state_of v).held c.args.t.slot c.args.n) c.self.view_is)
    ∙ sym (ap (λ b. if b then Some (s.held c.args.t.slot c.args.n) else None) (passed (lives s c.args.t) _ _ (sym c.in-Some.is ∙ c.status.ensures)))
