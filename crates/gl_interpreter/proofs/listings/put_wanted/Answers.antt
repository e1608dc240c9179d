use Rattle.gl_interpreter.proofs.Words.{◌∙◌, sym}
use Rattle.gl_interpreter.proofs.Writing.{Hands-none, Hands-then}
use Rattle.gl_interpreter.proofs.listings.put_wanted.Goals as goal

pub returns-then-eq : goal.returns-then-eq
returns-then-eq g c =
    let text = Hands-then _ _ _ _ _ _ _ _ c.put.ensures (rw (c.as_bytes.ensures.value, c.text.ensures) at c.put-then-eq.ensures) in
    rw c.in-Some.is (rw (sym c.eq.ensures ∙ c.if-eq.true) text)

pub returns-else-eq : goal.returns-else-eq
returns-else-eq g c = rw c.in-Some.is (rw (sym c.eq.ensures ∙ c.if-eq.false) (Hands-none _ _))

pub returns-in-None : goal.returns-in-None
returns-in-None g c = rw c.in-None.is (Hands-none _ _)
