use Rattle.gl_interpreter.proofs.Writing.{Hands-then}
use Rattle.gl_interpreter.proofs.listings.put_waiter.Goals as goal

pub returns : goal.returns
returns g c =
    let name = Hands-then _ _ _ _ _ _ _ _ c.put.ensures (rw c.name_at.ensures at c.put-2.ensures) in
    let space = Hands-then _ _ _ _ _ _ _ _ name c.put-3.ensures in
    let mode = Hands-then _ _ _ _ _ _ _ _ space (rw (c.as_bytes.ensures.value, c.text.ensures) at c.put-4.ensures) in
    Hands-then _ _ _ _ _ _ _ _ mode c.put-5.ensures
