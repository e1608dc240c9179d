use Rattle.gl_interpreter.proofs.Words.{names_of}
use Rattle.gl_interpreter.proofs.desk.Desk.make_room.Goals as goal

pub returns-in-Node-clause-names : goal.returns-in-Node-clause-names
returns-in-Node-clause-names c = λ i. record (names_of c.args.self.now) { node = c.room_for.ensures.ids i; node_name = c.room_for.ensures.names i }

pub returns-in-Txn-clause-names : goal.returns-in-Txn-clause-names
returns-in-Txn-clause-names c = λ i. record (names_of c.args.self.now) {
  txn = c.room_for-in-Txn.ensures.ids i;
  txn_name =
      c.room_for-in-Txn.ensures.names i;
}

pub returns-in-NextTxn-clause-names : goal.returns-in-NextTxn-clause-names
returns-in-NextTxn-clause-names c = λ i. record (names_of c.args.self.now) { txn = c.room_in.ensures.ids i; txn_name = c.room_in.ensures.names i }
