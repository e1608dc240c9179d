-- Room for a declared name, made before anything changes.
use Rattle.std.specs.Prelude.{◌≡◌, Bool, true, false, OnErr, Result, Ok, Err, is_some}
use Rattle.gl_modes.specs.declared.refusal.Refusal.{Refusal}
use Rattle.gl_modes.specs.declared.refusal.Refusal.TheVariants as no
use Rattle.gl_script.specs.Grammar.{Text}
use Rattle.gl_interpreter.specs.declared.desk.Desk.{Desk}
use Rattle.gl_interpreter.specs.declared.register.Register.{Register}
use Rattle.gl_interpreter.specs.Names.{Names}
use Rattle.gl_interpreter.specs.Script.{Naming, NodeName, TxnName, NextTxn, declares, is_in_use}
use Rattle.gl_interpreter.specs.Views.{HasRoom, id_in}

-- there is room for the declared name
abbrev pub HasRoomFor : Desk → Naming → Type 0
HasRoomFor desk (NodeName n) = HasRoom desk.nodes
HasRoomFor desk (TxnName t) = HasRoom desk.txns
HasRoomFor desk (NextTxn t) = HasRoom desk.txns
HasRoomFor desk n = Unit

-- the name is free and there is room, or the refusal says which is not so
abbrev pub IsRoomed : Bool → Type 0 → Result Unit Refusal → Type 0
IsRoomed taken room (Ok u) = (taken ≡ false) × room
IsRoomed taken room (Err no.NameTaken) = taken ≡ true
IsRoomed taken room (Err no.NoMemory) = taken ≡ false
IsRoomed taken room (Err r) = ⊥

-- room in one set of names
abbrev pub MakesRoomIn : {I : Type 0} → Register I → Text → Register I → Result Unit Refusal → Type 0
MakesRoomIn old n new result = IsRoomed (is_some (id_in old n)) (HasRoom new) result

-- room for what a line declares
abbrev pub MakesRoom : Names → Naming → Desk → Result Unit Refusal → Type 0
MakesRoom names n desk result = IsRoomed (is_in_use names n) (HasRoomFor desk n) result × OnErr result (declares n ≡ true)
