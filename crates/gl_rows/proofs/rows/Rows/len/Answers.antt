use Rattle.std.specs.Prelude.{length}
use Rattle.std.proofs.Common.{ap, ◌∙◌}
use Rattle.gl_rows.specs.Rows.{RowsView}
use Rattle.gl_rows.proofs.rows.Rows.len.Goals as goal

pub returns : goal.returns
returns c = c.len.ensures.len ∙ ap (λ (v : RowsView). length v.names) c.self.view_is
