use Rattle.gl_interpreter.proofs.Writing.{Hands-then}
use Rattle.gl_interpreter.proofs.answers.put_no_txn.Goals as goal

pub returns : goal.returns
returns g c =
    let name = Hands-then _ _ _ _ _ _ _ _ c.put_no.ensures (rw c.as_slice.ensures.value at c.put_name.ensures) in
    Hands-then _ _ _ _ _ _ _ _ name c.put.ensures
