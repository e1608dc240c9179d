use Rattle.gl_script.proofs.OneCommand.{one_command}
use Rattle.gl_script.proofs.line.one_command.Goals as goal

pub returns : goal.returns
returns c = one_command
