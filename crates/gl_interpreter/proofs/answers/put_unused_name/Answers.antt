use Rattle.gl_interpreter.proofs.Words.{◌∙◌, ap, not, sym}
use Rattle.gl_interpreter.proofs.Writing.{Hands-none}
use Rattle.gl_interpreter.proofs.answers.put_unused_name.Goals as goal

pub returns-then-is_node-clause-text : goal.returns-then-is_node-clause-text
returns-then-is_node-clause-text g c = rw (ap not (sym c.is_node.ensures ∙ c.if-is_node.true)) (Hands-none _ _)

pub returns-clause-text : goal.returns-clause-text
returns-clause-text g c = rw (ap not (sym c.is_node.ensures ∙ c.if-is_node.false)) (rw c.as_slice.ensures.value at c.put_name.ensures)
