use Rattle.gl_steps.proofs.WaitsBegin.{begins_waits}
use Rattle.gl_steps.proofs.laws.begins_waits.Goals as goal

pub returns : goal.returns
returns c = begins_waits
