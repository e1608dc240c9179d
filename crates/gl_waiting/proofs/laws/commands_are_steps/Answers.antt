use Rattle.gl_waiting.proofs.Commands.{commands_are_steps as proved}
use Rattle.gl_waiting.proofs.laws.commands_are_steps.Goals as goal

pub returns : goal.returns
returns c = proved
