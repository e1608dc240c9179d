use Rattle.gl_interpreter.proofs.Sayable.{each_is_said}
use Rattle.gl_interpreter.proofs.laws.each_is_said.Goals as goal

pub returns : goal.returns
returns c = each_is_said
