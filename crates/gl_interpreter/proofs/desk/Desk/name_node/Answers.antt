use Rattle.gl_interpreter.proofs.Words.{names_of}
use Rattle.gl_interpreter.proofs.desk.Desk.name_node.Goals as goal

pub returns-in-Node-clause-names : goal.returns-in-Node-clause-names
returns-in-Node-clause-names c = rw c.in-Node.is (λ i. record (names_of c.args.self.now) { node = c.add.ensures.ids i; node_name = c.add.ensures.names i })
