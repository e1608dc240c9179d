use Rattle.gl_parts.proofs.Steps.{cycles_of_parts}
use Rattle.gl_parts.proofs.laws.cycles.Goals as goal

pub returns : goal.returns
returns c = cycles_of_parts
