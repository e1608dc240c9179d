use Rattle.gl_table.proofs.Words.{◌∙◌, ap, is_idle, refl, state_of, TableView}
use Rattle.gl_table.proofs.calls.Queries.{idle-seen}
use Rattle.gl_table.proofs.table.Table.is_idle.Goals as goal

pub returns : goal.returns
returns c =
    c.is_idle.ensures ∙ idle-seen c.self.inside c.self.invariant c.law.ensures.headers c.args.n _ refl
    ∙ ap (λ (v : TableView). is_idle (state_of v) c.args.n) c.self.view_is
