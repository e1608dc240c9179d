use Rattle.gl_interpreter.proofs.Writing.{Hands-then}
use Rattle.gl_interpreter.proofs.answers.put_refusal.Goals as goal

pub returns : goal.returns
returns g c =
    let who = Hands-then _ _ _ _ _ _ _ _ c.put_no.ensures c.put_who.ensures in
    Hands-then _ _ _ _ _ _ _ _ who c.put.ensures
