use Rattle.gl_interpreter.proofs.Words.{◌∙◌, sym}
use Rattle.gl_interpreter.proofs.Writing.{Hands-none}
use Rattle.gl_interpreter.proofs.listings.put_living.Goals as goal

pub returns-in-Some : goal.returns-in-Some
returns-in-Some g c = rw (sym c.living.ensures ∙ c.in-Some.is) c.put_txn.ensures

pub returns-in_default : goal.returns-in_default
returns-in_default g c = rw (sym c.living.ensures ∙ c.in_default.is) (Hands-none _ _)
