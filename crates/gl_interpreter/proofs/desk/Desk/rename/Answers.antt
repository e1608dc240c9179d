use Rattle.gl_interpreter.proofs.desk.Desk.rename.Goals as goal

pub name_node-requires : goal.name_node-requires
name_node-requires c = record { room = rw c.in-Node.is at c.requires.room }

pub name_txn-requires : goal.name_txn-requires
name_txn-requires c = record { room = rw c.in-Txn.is at c.requires.room }

pub name_next_txn-requires : goal.name_next_txn-requires
name_next_txn-requires c = record { room = rw c.in-NextTxn.is at c.requires.room }
