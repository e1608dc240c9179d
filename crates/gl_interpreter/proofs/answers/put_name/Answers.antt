use Rattle.gl_interpreter.proofs.Writing.{Hands-then}
use Rattle.gl_interpreter.proofs.answers.put_name.Goals as goal

pub returns : goal.returns
returns g c = Hands-then _ _ _ _ _ _ _ _ c.put.ensures c.put-2.ensures
