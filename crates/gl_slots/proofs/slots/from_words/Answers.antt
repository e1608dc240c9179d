use Rattle.std.proofs.Common.{sym, arith}
use Rattle.gl_slots.proofs.WordLemmas.{joined-is, joined-shows}
use Rattle.gl_slots.proofs.slots.from_words.Goals as goal

pub returns-clause-is : goal.returns-clause-is
returns-clause-is c =
    joined-is c.args.words c.from-2.result c.from.result (omega arith) (sym c.from-2.ensures) (sym c.from.ensures) (omega arith) (omega arith)

pub returns-clause-shows : goal.returns-clause-shows
returns-clause-shows c =
    joined-shows c.args.words c.from-2.result c.from.result (omega arith) (sym c.from-2.ensures) (sym c.from.ensures) (omega arith) (omega arith)
