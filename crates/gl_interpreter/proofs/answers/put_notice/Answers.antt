use Rattle.gl_interpreter.proofs.Writing.{Hands-then}
use Rattle.gl_interpreter.proofs.answers.put_notice.Goals as goal

pub returns-in-Granted : goal.returns-in-Granted
returns-in-Granted g c =
    let mode = Hands-then _ _ _ _ _ _ _ _ c.put.ensures (rw (c.as_bytes.ensures.value, c.text.ensures) at c.put-in-Granted.ensures) in
    rw c.in-Granted.is (Hands-then _ _ _ _ _ _ _ _ mode c.put_called.ensures)
