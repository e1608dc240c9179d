use Rattle.gl_interpreter.proofs.Words.{names_of}
use Rattle.gl_interpreter.proofs.desk.Desk.name_txn.Goals as goal

pub returns-in-Begun-clause-names : goal.returns-in-Begun-clause-names
returns-in-Begun-clause-names c = rw c.in-Begun.is (λ i. record (names_of c.args.self.now) { txn = c.add.ensures.ids i; txn_name = c.add.ensures.names i })
