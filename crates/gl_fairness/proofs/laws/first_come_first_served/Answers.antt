use Rattle.gl_fairness.proofs.Served.{first_come_first_served, nobody_comes_between}
use Rattle.gl_fairness.proofs.laws.first_come_first_served.Goals as goal

pub returns : goal.returns
returns c = record { step = first_come_first_served; run = nobody_comes_between }
