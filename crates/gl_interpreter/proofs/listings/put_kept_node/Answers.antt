use Rattle.gl_interpreter.proofs.Words.{◌∙◌, sym}
use Rattle.gl_interpreter.proofs.Writing.{Hands-then}
use Rattle.gl_interpreter.proofs.listings.put_kept_node.Goals as goal

pub returns-in-None : goal.returns-in-None
returns-in-None g c =
    rw (sym c.place.ensures ∙ c.in-None.is) (Hands-then _ _ _ _ _ _ _ _ c.put.ensures (rw (c.or_dash.ensures, c.node_name.ensures) at c.put-in-None.ensures))

pub returns-in-Some : goal.returns-in-Some
returns-in-Some g c =
    let some = sym c.place.ensures ∙ c.in-Some.is in
    rw some (rw some at c.put_called.ensures)
