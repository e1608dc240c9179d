use Rattle.gl_parts.proofs.Actions.{requests_can_copy}
use Rattle.gl_parts.proofs.Falls.{main_steps_can_copy}
use Rattle.gl_parts.proofs.laws.can_copy.Goals as goal

pub returns : goal.returns
returns c = record { parts = requests_can_copy; main = main_steps_can_copy }
