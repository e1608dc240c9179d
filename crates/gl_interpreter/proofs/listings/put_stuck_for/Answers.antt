use Rattle.gl_interpreter.proofs.Words.{◌∙◌, sym}
use Rattle.gl_interpreter.proofs.Writing.{Hands-none, Hands-then}
use Rattle.gl_interpreter.proofs.listings.put_stuck_for.Goals as goal

pub returns-then-contains : goal.returns-then-contains
returns-then-contains g c =
    let who = Hands-then _ _ _ _ _ _ _ _ c.put.ensures c.put_member.ensures in
    let waits = Hands-then _ _ _ _ _ _ _ _ who c.put-then-contains.ensures in
    let mode = Hands-then _ _ _ _ _ _ _ _ waits (rw (c.as_bytes.ensures.value, c.text.ensures) at c.put-then-contains-2.ensures) in
    let node = Hands-then _ _ _ _ _ _ _ _ mode c.put_kept_node.ensures in
    let word = Hands-then _ _ _ _ _ _ _ _ node c.put-then-contains-3.ensures in
    let whom = Hands-then _ _ _ _ _ _ _ _ word c.put_member-then-contains.ensures in
    rw (sym c.contains.ensures ∙ c.if-contains.true) (Hands-then _ _ _ _ _ _ _ _ whom c.put-then-contains-4.ensures)

pub returns-else-contains : goal.returns-else-contains
returns-else-contains g c = rw (sym c.contains.ensures ∙ c.if-contains.false) (Hands-none _ _)
