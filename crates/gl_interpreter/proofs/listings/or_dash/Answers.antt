use Rattle.gl_interpreter.proofs.Words.{other_test, same_test}
use Rattle.gl_interpreter.proofs.RowByRow.{dash_for_none, name_of_some}
use Rattle.gl_interpreter.proofs.listings.or_dash.Goals as goal

pub returns-then-is_empty : goal.returns-then-is_empty
returns-then-is_empty c = dash_for_none c.args.name.now (same_test _ _ _ c.is_empty.ensures c.if-is_empty.true)

pub returns-else-is_empty : goal.returns-else-is_empty
returns-else-is_empty c = name_of_some c.args.name.now (other_test _ _ _ c.is_empty.ensures c.if-is_empty.false)
