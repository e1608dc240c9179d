use Rattle.gl_interpreter.proofs.Writing.{Hands-then}
use Rattle.gl_interpreter.proofs.listings.put_lock.Goals as goal

pub returns : goal.returns
returns g c =
    let mode = Hands-then _ _ _ _ _ _ _ _ c.put.ensures (rw (c.as_bytes.ensures.value, c.text.ensures) at c.put-2.ensures) in
    let node = Hands-then _ _ _ _ _ _ _ _ mode c.put_called.ensures in
    let word = Hands-then _ _ _ _ _ _ _ _ node c.put-3.ensures in
    let count = Hands-then _ _ _ _ _ _ _ _ word c.put_number.ensures in
    let wanted = Hands-then _ _ _ _ _ _ _ _ count c.put_wanted.ensures in
    Hands-then _ _ _ _ _ _ _ _ wanted c.put-4.ensures
