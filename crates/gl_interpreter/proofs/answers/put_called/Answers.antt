use Rattle.gl_interpreter.proofs.Words.{◌∙◌, sym}
use Rattle.gl_interpreter.proofs.Writing.{Hands-then}
use Rattle.gl_interpreter.proofs.answers.put_called.Goals as goal

pub returns-in-Some : goal.returns-in-Some
returns-in-Some g c =
    let name = rw c.index_name.ensures at c.put_name-in-Some.ensures in
    rw (sym c.place.ensures ∙ c.in-Some.is) (Hands-then _ _ _ _ _ _ _ _ name c.put_place.ensures)
