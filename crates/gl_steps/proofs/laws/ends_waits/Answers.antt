use Rattle.gl_steps.proofs.WaitsEnd.{waits_end_so}
use Rattle.gl_steps.proofs.laws.ends_waits.Goals as goal

pub returns : goal.returns
returns c = waits_end_so
