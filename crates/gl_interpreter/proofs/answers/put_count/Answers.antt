use Rattle.gl_interpreter.proofs.Writing.{Hands-then}
use Rattle.gl_interpreter.proofs.answers.put_count.Goals as goal

pub returns : goal.returns
returns g c =
    let number = Hands-then _ _ _ _ _ _ _ _ c.put.ensures c.put_number.ensures in
    Hands-then _ _ _ _ _ _ _ _ number c.put-2.ensures
