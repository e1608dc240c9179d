use Rattle.gl_table.proofs.Words.{◌∙◌, ap, commit_tests, first_refusal, graph_of, state_of, TableView, verdict}
use Rattle.gl_table.proofs.table.Table.check_active.Goals as goal

pub returns : goal.returns
returns c =
    c.check_active.ensures (graph_of c.self.inside.locks.graph) ∙ ap (λ (v : TableView).
    verdict (first_refusal (commit_tests (state_of v) c.args.t))) c.self.view_is
