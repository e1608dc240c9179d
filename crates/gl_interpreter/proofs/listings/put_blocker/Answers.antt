use Rattle.gl_interpreter.proofs.Writing.{Hands-then}
use Rattle.gl_interpreter.proofs.listings.put_blocker.Goals as goal

pub returns : goal.returns
returns g c =
    let name = Hands-then _ _ _ _ _ _ _ _ c.put.ensures (rw c.name_at.ensures at c.put-2.ensures) in
    Hands-then _ _ _ _ _ _ _ _ name c.put-3.ensures
