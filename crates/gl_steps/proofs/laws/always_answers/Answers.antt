use Rattle.gl_steps.proofs.ExecuteIsStep.{always_answers}
use Rattle.gl_steps.proofs.laws.always_answers.Goals as goal

pub returns : goal.returns
returns c = always_answers
