use Rattle.gl_table.proofs.Words.{◌∙◌, ap, state_of, TableView, verdict_ok}
use Rattle.gl_table.proofs.calls.Queries.{answers, both_pass}
use Rattle.gl_table.proofs.table.Table.held.Goals as goal

pub returns : goal.returns
returns c =
    answers _ _ _ (both_pass _ _ (verdict_ok _ _ c.in_ok-check_txn.ensures) (verdict_ok _ _ c.in_ok-check_node.ensures))
    (c.mode.ensures ∙ ap (λ (v : TableView). (state_of v).held c.args.t.slot c.args.n) c.self.view_is)
