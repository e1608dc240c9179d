use Rattle.gl_fairness.proofs.Ends.{waits_end}
use Rattle.gl_fairness.proofs.laws.waits_end.Goals as goal

pub returns : goal.returns
returns c = waits_end
