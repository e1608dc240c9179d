use Rattle.gl_parts.proofs.Falls.{others_stay_covered}
use Rattle.gl_parts.proofs.Plain.{plain_main_steps}
use Rattle.gl_parts.proofs.laws.main_steps.Goals as goal

pub returns : goal.returns
returns c = record { action = plain_main_steps; others = others_stay_covered }
