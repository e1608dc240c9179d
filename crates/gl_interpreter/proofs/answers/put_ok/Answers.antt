use Rattle.gl_interpreter.proofs.Writing.{Hands-then}
use Rattle.gl_interpreter.proofs.answers.put_ok.Goals as goal

pub returns : goal.returns
returns g c =
    let word = Hands-then _ _ _ _ _ _ _ _ c.put.ensures (rw c.as_bytes.ensures.value at c.put-2.ensures) in
    Hands-then _ _ _ _ _ _ _ _ word c.put-3.ensures
