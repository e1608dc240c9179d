use Rattle.gl_interpreter.proofs.Writing.{Hands-then}
use Rattle.gl_interpreter.proofs.answers.put_no_node.Goals as goal

pub returns : goal.returns
returns g c =
    let who = Hands-then _ _ _ _ _ _ _ _ c.put_no.ensures c.put_unused.ensures.text in
    Hands-then _ _ _ _ _ _ _ _ who c.put.ensures
