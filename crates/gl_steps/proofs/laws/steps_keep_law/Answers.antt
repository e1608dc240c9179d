use Rattle.gl_steps.proofs.Words.{empty-lawful}
use Rattle.gl_steps.proofs.StepsKeepLaw.{runs_keep_law, steps_keep_law}
use Rattle.gl_steps.proofs.laws.steps_keep_law.Goals as goal

pub returns : goal.returns
returns c = record { law = steps_keep_law; runs = runs_keep_law; start = empty-lawful }
