use Rattle.gl_interpreter.proofs.Writing.{Hands-then}
use Rattle.gl_interpreter.proofs.answers.put_escalated.Goals as goal

pub returns : goal.returns
returns g c =
    let mode = Hands-then _ _ _ _ _ _ _ _ c.put.ensures (rw (c.as_bytes.ensures.value, c.text.ensures) at c.put-2.ensures) in
    let released = Hands-then _ _ _ _ _ _ _ _ (Hands-then _ _ _ _ _ _ _ _ mode c.put-3.ensures) c.put_number.ensures in
    let kept = Hands-then _ _ _ _ _ _ _ _ (Hands-then _ _ _ _ _ _ _ _ released c.put-4.ensures) c.put_number-2.ensures in
    Hands-then _ _ _ _ _ _ _ _ kept c.put-5.ensures
