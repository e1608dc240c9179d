-- The meaning of the code's values.
use Rattle.std.specs.Prelude.{ℕ, ◌<◌, Bool, [], Option, None, Some}
use Rattle.std.specs.Str.{bytes_eq}
use Rattle.indexmap.specs.IndexMap.{get, spare}
use Rattle.arrayvec.specs.ArrayVec.{ArrayVec}
use Rattle.gl_modes.specs.Nodes.{same_node}
use Rattle.gl_table.specs.Table.{nodes_of}
use Rattle.gl_catalog.specs.Manager.{state_of}
use Rattle.gl_script.specs.Grammar.{Text}
use Rattle.gl_interpreter.specs.declared.desk.Desk.{Desk}
use Rattle.gl_interpreter.specs.declared.naming.Naming.{Naming as CodeNaming}
use Rattle.gl_interpreter.specs.declared.naming.Naming.TheVariants as naming
use Rattle.gl_interpreter.specs.declared.register.Register.{Register}
use Rattle.gl_interpreter.specs.Names.{Names, same_txn}
use Rattle.gl_interpreter.specs.Script.{Script, Naming, NodeName, TxnName, NextTxn, EndedTxn, RemovedNode, Nothing}

-- names are equal if their bytes are
abbrev pub same_name : ArrayVec ℕ → ArrayVec ℕ → Bool
same_name a b = bytes_eq a.items b.items

-- the id of a name
abbrev pub id_in : {I : Type 0} → Register I → Text → Option I
id_in r n = get same_name r.ids (record { items = n })

-- the bytes of a name, empty if there is none
abbrev pub text_or_none : Option (ArrayVec ℕ) → Text
text_or_none None = []
text_or_none (Some name) = name.items

-- the name of an id
abbrev pub name_in : {I : Type 0} → (I → I → Bool) → Register I → I → Text
name_in eq r x = text_or_none (get eq r.names x)

-- there is room for one more name
abbrev pub HasRoom : {I : Type 0} → Register I → Type 0
HasRoom r = (0 < spare r.ids) × (0 < spare r.names)

-- the names of a desk
abbrev pub names_of : Desk → Names
names_of desk =
    record {
      node = id_in desk.nodes;
      node_name = name_in same_node desk.nodes;
      txn = id_in desk.txns;
      txn_name = name_in same_txn desk.txns;
    }

-- what is done to names
abbrev pub naming_of : CodeNaming → Naming
naming_of (naming.Node n) = NodeName n.now.items
naming_of (naming.Txn t) = TxnName t.now.items
naming_of (naming.NextTxn t) = NextTxn t.now.items
naming_of (naming.EndedTxn t) = EndedTxn t.now.items
naming_of (naming.RemovedNode n) = RemovedNode n.now.items
naming_of naming.Nothing = Nothing

-- the script of a desk
abbrev pub script_of : Desk → Script
script_of desk =
    record {
      language = desk.language;
      names = names_of desk;
      locks = state_of desk.manager;
      deadlock = desk.manager.table.deadlock;
      orders = nodes_of desk.manager.table;
    }
