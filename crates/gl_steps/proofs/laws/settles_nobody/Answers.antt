use Rattle.gl_steps.proofs.IdleSettle.{settles_nobody}
use Rattle.gl_steps.proofs.laws.settles_nobody.Goals as goal

pub returns : goal.returns
returns c = settles_nobody
