use Rattle.gl_waiting.proofs.Commands.{refusals_change_nothing as proved}
use Rattle.gl_waiting.proofs.laws.refusals_change_nothing.Goals as goal

pub returns : goal.returns
returns c = proved
