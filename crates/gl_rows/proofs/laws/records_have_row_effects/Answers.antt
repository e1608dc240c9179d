use Rattle.gl_rows.proofs.StandingRows.{records_have_row_effects}
use Rattle.gl_rows.proofs.laws.records_have_row_effects.Goals as goal

pub returns : goal.returns
returns c = records_have_row_effects
