-- The names that a script has declared: two separate sets, of nodes and of transactions.
use Rattle.std.specs.Prelude.{Bool, ◌==◌, ◌&&◌, [], Option, Some, None, if◌then◌else◌}
use Rattle.std.specs.Str.{bytes_eq}
use Rattle.gl_modes.specs.declared.node.NodeId.{NodeId}
use Rattle.gl_modes.specs.Nodes.{same_node}
use Rattle.gl_model.specs.declared.txn.TxnId.{TxnId}
use Rattle.gl_script.specs.Grammar.{Text}

-- the same transaction
abbrev pub same_txn : TxnId → TxnId → Bool
same_txn t u = (t.slot == u.slot) && (t.age == u.age)

-- the id of each name, and the name of each id
pub record Names : Type 0 where
  pub node : Text → Option NodeId
  pub node_name : NodeId → Text
  pub txn : Text → Option TxnId
  pub txn_name : TxnId → Text

-- no names
abbrev pub no_names : Names
no_names = record { node = λ n. None; node_name = λ x. []; txn = λ t. None; txn_name = λ x. [] }

-- the names, and this one for this node
abbrev pub with_node : Names → Text → NodeId → Names
with_node names n x = record names {
  node = λ m. if bytes_eq n m then Some x else names.node m;
  node_name = λ y. if same_node x y then n
      else names.node_name y;
}

-- the names, without this node's
abbrev pub without_node : Names → Text → NodeId → Names
without_node names n x = record names {
  node = λ m. if bytes_eq n m then None else names.node m;
  node_name = λ y. if same_node x y then []
      else names.node_name y;
}

-- the names, and this one for this transaction
abbrev pub with_txn : Names → Text → TxnId → Names
with_txn names t x = record names { txn = λ u. if bytes_eq t u then Some x else names.txn u; txn_name = λ y. if same_txn x y then t else names.txn_name y }

-- the names, without this transaction's
abbrev pub without_txn : Names → Text → TxnId → Names
without_txn names t x = record names { txn = λ u. if bytes_eq t u then None else names.txn u; txn_name = λ y. if same_txn x y then [] else names.txn_name y }
