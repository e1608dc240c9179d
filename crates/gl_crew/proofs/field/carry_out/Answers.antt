use Rattle.gl_steps.proofs.Detection.{steps_keep_detect}
use Rattle.gl_crew.proofs.field.carry_out.Goals as goal

pub returns-in-Refused : goal.returns-in-Refused
returns-in-Refused c = steps_keep_detect _ _ _ _ _ c.apply.ensures.step

pub returns-in_default : goal.returns-in_default
returns-in_default c = steps_keep_detect _ _ _ _ _ c.apply.ensures.step
