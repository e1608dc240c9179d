use Rattle.gl_interpreter.proofs.Writing.{Hands-none, Hands-then}
use Rattle.gl_interpreter.proofs.answers.put_place.Goals as goal

pub returns-in-Some : goal.returns-in-Some
returns-in-Some g c = rw c.in-Some.is (Hands-then _ _ _ _ _ _ _ _ c.put.ensures c.put_number.ensures)

pub returns-in_default : goal.returns-in_default
returns-in_default g c = rw c.in_default.is (Hands-none _ _)
