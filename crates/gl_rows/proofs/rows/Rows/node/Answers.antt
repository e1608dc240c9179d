use Rattle.std.proofs.Common.{ap, ◌∙◌}
use Rattle.gl_rows.specs.Rows.{RowsView, name_of}
use Rattle.gl_rows.proofs.rows.Rows.node.Goals as goal

pub returns : goal.returns
returns c = c.copied.ensures ∙ c.get.ensures.value ∙ ap (λ (v : RowsView). name_of v c.args.row) c.self.view_is
