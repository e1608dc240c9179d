use Rattle.std.specs.Prelude.{[]}
use Rattle.std.proofs.Common.{subst}
use Rattle.gl_rows.specs.Releasing.{LetsLeftGo, no_end}
use Rattle.gl_rows.specs.Rows.{RowsView}
use Rattle.gl_rows.specs.Sound.{view_of}
use Rattle.gl_rows.proofs.LeftRows.{none_left}
use Rattle.gl_rows.proofs.rows.Rows.let_left_go.Goals as goal

pub returns-else-not-is_empty : goal.returns-else-not-is_empty
returns-else-not-is_empty c =
    subst (λ (v : RowsView). LetsLeftGo c.args.manager.now v [] no_end c.args.manager.now v) c.self.view_is
    (none_left c.args.manager.now (view_of c.self.inside) (c.is_empty.ensures.0 c.if-not-is_empty.false))
