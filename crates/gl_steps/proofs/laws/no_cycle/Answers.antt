use Rattle.gl_steps.proofs.StepNoCycle.{runs_keep_no_cycle}
use Rattle.gl_model.proofs.law.Lock.{empty-no_cycle}
use Rattle.gl_steps.proofs.laws.no_cycle.Goals as goal

pub returns : goal.returns
returns c = record { law = runs_keep_no_cycle; start = empty-no_cycle }
