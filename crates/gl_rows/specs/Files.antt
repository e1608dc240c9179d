-- How a file of rows is made.
use Rattle.std.specs.Prelude.{◌≡◌, ◌⊎◌, ◌||◌, List, [], Result, Ok, Err}
use denote.Bor.{Bor}
use Rattle.gl_modes.specs.declared.node.NodeId.{NodeId}
use Rattle.gl_modes.specs.Nodes.{same_node}
use Rattle.gl_modes.specs.declared.refusal.Refusal.{Refusal}
use Rattle.gl_modes.specs.declared.refusal.Refusal.TheVariants as no
use Rattle.gl_steps.specs.declared.command.Command.TheVariants as command
use Rattle.gl_catalog.specs.Manager.{ManagerView}
use Rattle.gl_catalog.specs.Replies.{made}
use Rattle.gl_rows.specs.Locking.{Does, IsRefused, Refused}
use Rattle.gl_rows.specs.Rows.{RowsView, has_rows}

-- this file is now one of rows, and all else is the same
pub record AddsFile (v : RowsView) (f : NodeId) (v' : RowsView) : Type 0 where
  pub files : (n : NodeId) → has_rows v' n ≡ (same_node f n || has_rows v n)
  pub names : v'.names ≡ v.names
  pub asked : v'.asked ≡ v.asked
  pub left : v'.left ≡ v.left

-- a file of rows is made; or the manager or lack of memory refuses it
abbrev pub MakesFile : ManagerView → RowsView → Bor (List NodeId) → Result NodeId Refusal → ManagerView → RowsView → Type 0
MakesFile m v ps (Ok f) m' v' = Does m (command.File ps) (made f) m' × AddsFile v f v'
MakesFile m v ps (Err r) m' v' = IsRefused m v (command.File ps) r [] m' v' ⊎ Refused {A = NodeId} m v no.NoMemory (Err r) [] m' v'
