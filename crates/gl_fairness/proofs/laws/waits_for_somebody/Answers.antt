use Rattle.gl_fairness.proofs.Ends.{waits_for_one_before, waits_for_somebody}
use Rattle.gl_fairness.proofs.laws.waits_for_somebody.Goals as goal

pub returns : goal.returns
returns c = record { now = waits_for_somebody; run = waits_for_one_before }
