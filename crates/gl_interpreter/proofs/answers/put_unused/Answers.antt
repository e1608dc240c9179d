use Rattle.gl_interpreter.proofs.Words.{◌∙◌, ◌≡◌, ap, false, is_some, node_named, node_of, not, script_of, sym, true}
use Rattle.gl_interpreter.proofs.Printing.{used_text}
use Rattle.gl_interpreter.proofs.Writing.{Hands-none, Hands-then}
use Rattle.gl_interpreter.proofs.answers.put_unused.Goals as goal

pub returns-then-is_some-clause-text : goal.returns-then-is_some-clause-text
returns-then-is_some-clause-text g c =
    let some : is_some (node_named (script_of c.args.desk.now) (node_of c.args.node.now)) ≡ true =
    ap is_some (sym c.find.ensures) ∙ sym c.is_some.ensures ∙ c.if-is_some.true in
    rw (ap not some) (Hands-none _ _)

pub returns-clause-text : goal.returns-clause-text
returns-clause-text g c =
    let none : is_some (node_named (script_of c.args.desk.now) (node_of c.args.node.now)) ≡ false =
    ap is_some (sym c.find.ensures) ∙ sym c.is_some.ensures ∙ c.if-is_some.false in
    let name = rw c.as_slice.ensures.value at c.put_name.ensures in
    let all = Hands-then _ _ _ _ _ _ _ _ name c.put_place.ensures in
    rw (ap not none) (rw (used_text c.args.node.now.name.items c.args.node.now.interval) at all)
