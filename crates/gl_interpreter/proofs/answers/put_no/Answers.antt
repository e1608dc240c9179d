use Rattle.gl_interpreter.proofs.Writing.{Hands-then}
use Rattle.gl_interpreter.proofs.answers.put_no.Goals as goal

pub returns : goal.returns
returns g c =
    let number = Hands-then _ _ _ _ _ _ _ _ c.put.ensures (rw c.number.ensures at c.put_number.ensures) in
    let space = Hands-then _ _ _ _ _ _ _ _ number c.put-2.ensures in
    Hands-then _ _ _ _ _ _ _ _ space (rw (c.as_bytes.ensures.value, c.name.ensures) at c.put-3.ensures)
