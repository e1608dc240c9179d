use Rattle.gl_fairness.proofs.Aside.{leaves_aside}
use Rattle.gl_fairness.proofs.laws.stays_aside.Goals as goal

pub returns : goal.returns
returns c = leaves_aside
