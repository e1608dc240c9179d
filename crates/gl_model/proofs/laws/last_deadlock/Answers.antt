use Rattle.gl_model.proofs.law.KeptRows.{rows_lead_on, settles-keeping, victim_has_row}
use Rattle.gl_model.proofs.laws.last_deadlock.Goals as goal

pub returns : goal.returns
returns c = record { settles = settles-keeping; victim = victim_has_row; onward = rows_lead_on }
