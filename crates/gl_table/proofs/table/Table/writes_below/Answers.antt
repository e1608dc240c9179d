use Rattle.gl_table.proofs.Words.{◌&&◌, ◌∙◌, ap, is_child, is_write, list_any, lives, nodes, state_of, sym, TableView}
use Rattle.gl_table.proofs.calls.Queries.{passed}
use Rattle.gl_table.proofs.table.Table.writes_below.Goals as goal

pub returns-in-Some : goal.returns-in-Some
returns-in-Some c =
    let s = state_of c.args.self.now in
    c.writes_below.ensures
    ∙ ap (λ (v : TableView). list_any (λ q. is_child (state_of v).graph c.args.n q && is_write ((state_of v).held c.args.t.slot q))
    (nodes (state_of v).graph)) c.self.view_is
    ∙ sym (ap (λ b. b && list_any (λ q. is_child s.graph c.args.n q && is_write (s.held c.args.t.slot q)) (nodes s.graph))
    (passed (lives s c.args.t) _ _ (sym c.in-Some.is ∙ c.status.ensures)))
