use Rattle.gl_steps.proofs.OneOutcome.{one_outcome}
use Rattle.gl_steps.proofs.laws.one_outcome.Goals as goal

pub returns : goal.returns
returns c = one_outcome
