use Rattle.gl_interpreter.proofs.Writing.{Hands-then}
use Rattle.gl_interpreter.proofs.listings.put_status.Goals as goal

pub returns-in-Waiting : goal.returns-in-Waiting
returns-in-Waiting g c =
    let mode = Hands-then _ _ _ _ _ _ _ _ c.put-in-Waiting.ensures (rw (c.as_bytes.ensures.value, c.text.ensures) at c.put-in-Waiting-2.ensures) in
    rw c.in-Waiting.is (Hands-then _ _ _ _ _ _ _ _ mode c.put_called.ensures)
