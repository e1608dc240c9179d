-- C's names of nodes and transactions, and the manager's own.
use Rattle.gl_modes.specs.declared.node.NodeId.{NodeId}
use Rattle.gl_model.specs.declared.txn.TxnId.{TxnId}
use Rattle.gl_model.specs.State.{lives}
use Rattle.gl_catalog.specs.Manager.{IsLawfulManager, ManagerView, state_of}
use Rattle.gl_slots.specs.Limit.{most_slots}
use Rattle.std.specs.Prelude.{◌≡◌, ℕ, false, if◌then◌else◌, nat_lt}
use Rattle.gl_rows.specs.declared.row.Row.{Row}
use Rattle.gl_c.specs.declared.names.Node.{Node}
use Rattle.gl_c.specs.declared.names.Txn.{Txn}

-- the manager's name of a node
abbrev pub node_id : Node → NodeId
node_id n = record { key = n.key; birth = n.birth }

-- C's name of a node
abbrev pub node_of : NodeId → Node
node_of n = record { key = n.key; birth = n.birth }

-- a row of a file, by its number
abbrev pub row_at : Node → ℕ → Row
row_at f number = record { file = node_id f; number = number }

-- the name of no transaction: ages begin at 1
abbrev pub no_txn : TxnId
no_txn = record { slot = 0; age = 0 }

-- the manager's name of a transaction; a number that is no slot names none
abbrev pub txn_id : Txn → TxnId
txn_id t = if nat_lt t.slot most_slots then record { slot = t.slot; age = t.age } else no_txn

-- C's name of a transaction
abbrev pub txn_of : TxnId → Txn
txn_of t = record { slot = t.slot; age = t.age }

-- this names no transaction of any manager
abbrev pub NamesNobody : TxnId → Type 0
NamesNobody t = (m : ManagerView) → IsLawfulManager m → lives (state_of m) t ≡ false
