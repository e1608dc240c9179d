use Rattle.gl_interpreter.proofs.Words.{refl}
use Rattle.gl_interpreter.specs.SoFar.{Obeys}
use Rattle.gl_interpreter.proofs.Writing.{Hands-then}
use Rattle.gl_interpreter.proofs.interpreter.Interpreter.obey.Goals as goal

pub returns : goal.returns
unfolding Obeys
returns g c =
    let notices = rw c.as_slice.ensures.value at c.put_notices.ensures in
    (c.serve-said.result, c.serve-said.new.told.items, c.serve-said.ensures.does, refl, Hands-then _ _ _ _ _ _ _ _ c.put_said.ensures notices)
