use Rattle.gl_steps.proofs.RowKeeps.{rows_come_and_go}
use Rattle.gl_steps.proofs.laws.rows_come_and_go.Goals as goal

pub returns : goal.returns
returns c = rows_come_and_go
