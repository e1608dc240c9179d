use Rattle.gl_parts.proofs.Steps.{steps_keep_parts}
use Rattle.gl_parts.proofs.laws.steps_keep_parts.Goals as goal

pub returns : goal.returns
returns c = steps_keep_parts
