use Rattle.gl_interpreter.proofs.Writing.{Hands-then}
use Rattle.gl_interpreter.proofs.answers.put_told.Goals as goal

pub returns : goal.returns
returns g c =
    let name = Hands-then _ _ _ _ _ _ _ _ c.put.ensures (rw c.txn_name.ensures at c.put-2.ensures) in
    let notice = Hands-then _ _ _ _ _ _ _ _ name c.put_notice.ensures in
    Hands-then _ _ _ _ _ _ _ _ notice c.put-3.ensures
