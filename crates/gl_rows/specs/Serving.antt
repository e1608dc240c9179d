-- How a registry serves commands, and what they leave to be done for rows.
use Rattle.std.specs.Prelude.{◌≡◌, ◌&&◌, ℕ, Bool, true, false, not, [], Option, Some, None, Result, Err, IfErr, OnErr, if◌then◌else◌}
use Rattle.gl_modes.specs.declared.node.NodeId.{NodeId}
use Rattle.gl_modes.specs.Nodes.{same_node}
use Rattle.gl_modes.specs.declared.refusal.Refusal.{Refusal}
use Rattle.gl_graph.specs.Graph.{first_parent}
use Rattle.gl_graph.specs.Refusals.{first_refusal}
use Rattle.gl_model.specs.declared.txn.TxnId.{TxnId}
use Rattle.gl_model.specs.Tellings.{Told}
use Rattle.gl_steps.specs.declared.command.Answer.{Answer}
use Rattle.gl_steps.specs.declared.command.Command.{Command}
use Rattle.gl_steps.specs.declared.command.Command.TheVariants as command
use Rattle.gl_catalog.specs.declared.manager.paths.Reached.{Reached}
use Rattle.gl_table.specs.Table.{KeepsOrders}
use Rattle.gl_catalog.specs.Counters.{counted}
use Rattle.gl_catalog.specs.Deadlocks.{KeepsDeadlock}
use Rattle.gl_catalog.specs.Manager.{ManagerView, state_of}
use Rattle.gl_catalog.specs.Paths.{Ask, LeavesAllBut, LocksPath, missing_parent, path_tests, reaching}
use Rattle.gl_steps.specs.Promises.{KeepsCaller, SettlesIdle, StepLeavesOthers}
use Rattle.gl_catalog.specs.Replies.{said}
use Rattle.gl_steps.specs.Served.{is_refused}
use Rattle.gl_steps.specs.Step.{Step}
use Rattle.gl_rows.specs.Releasing.{LetsGoAtEnd, LetsGoMeanwhile, LetsLeftGo, no_end}
use Rattle.gl_rows.specs.Rows.{RegistryView, RowsView, has_rows}

-- the command would make, remove or rekey a record of a file of rows
abbrev pub touches_rows : RegistryView → Command → Bool
touches_rows v (command.Insert t f keys) = has_rows v.rows f
touches_rows v (command.Adopt f keys) = has_rows v.rows f
touches_rows v (command.Delete t r) = has_rows v.rows (first_parent (state_of v.manager).graph r)
touches_rows v (command.Rekey t r i key) = has_rows v.rows (first_parent (state_of v.manager).graph r)
touches_rows v (command.Forget r) = has_rows v.rows (first_parent (state_of v.manager).graph r)
touches_rows v c = false

-- a command is one step of the model, keeps what the manager promises its caller and others and the order of locks, records the last deadlock that it ends,
-- and is counted; one that is refused or only asks changes nothing
pub record Applies (m : ManagerView) (c : Command) (a : Answer) (told : Told) (m' : ManagerView) : Type 0 where
  pub step : Step (state_of m) c a told (state_of m')
  pub caller : KeepsCaller c (state_of m) (state_of m')
  pub others : StepLeavesOthers (state_of m) c (a, told) (state_of m')
  pub settles : SettlesIdle (state_of m) c a told (state_of m')
  pub deadlock : KeepsDeadlock c m a m'
  pub counters : m'.counters ≡ counted (state_of m) c a told (state_of m') m.counters
  pub same : m'.accepted ≡ m.accepted → m' ≡ m
  pub orders : KeepsOrders m.table m'.table

-- the node is no file of rows any more, and all else is the same
pub record ForgetsFile (v : RowsView) (n : NodeId) (v' : RowsView) : Type 0 where
  pub files : (f : NodeId) → has_rows v' f ≡ (has_rows v f && not (same_node n f))
  pub names : v'.names ≡ v.names
  pub asked : v'.asked ≡ v.asked
  pub left : v'.left ≡ v.left

-- what a command leaves to be done for rows: nothing, or the node that it dropped, or the slot of the transaction that it ended, or of one whose locks or wait
-- it gave back, or it released one node
pub data Remains : Type 0 where
  Nothing : Remains
  Dropped : (node : NodeId) → Remains
  Ended : (slot : ℕ) → Remains
  GaveBack : (slot : ℕ) → Remains
  Released : Remains

-- if it is not refused
abbrev pub remains_of : Command → Remains
remains_of (command.Drop t n) = Dropped n
remains_of (command.Commit t) = Ended t.slot
remains_of (command.Abort t) = Ended t.slot
remains_of (command.Cancel t) = GaveBack t.slot
remains_of (command.Escalate t n) = GaveBack t.slot
remains_of (command.Unlock t n) = Released
remains_of c = Nothing

-- and by its answer
abbrev pub remains_after : Command → Answer → Remains
remains_after c a = if is_refused a then Nothing else remains_of c

-- rows may be let go for it
abbrev pub lets_go : Remains → Bool
lets_go (Ended slot) = true
lets_go (GaveBack slot) = true
lets_go Released = true
lets_go x = false

-- what is done for rows. A dropped node is no file of rows any more; its rows have no nodes, since it had no record, and its id is never given again. The
-- rows that a transaction asked for are let go, and the rows left
abbrev pub TidiesUp : Remains → ManagerView → RowsView → ManagerView → RowsView → Type 0
TidiesUp Nothing m v m' v' = (m' ≡ m) × (v' ≡ v)
TidiesUp (Dropped n) m v m' v' = (m' ≡ m) × ForgetsFile v n v'
TidiesUp (Ended slot) m v m' v' = LetsGoAtEnd m v slot m' v'
TidiesUp (GaveBack slot) m v m' v' = LetsGoMeanwhile m v slot m' v'
TidiesUp Released m v m' v' = LetsLeftGo m v [] no_end m' v'

-- a command is carried out, and then what it leaves to be done for rows
pub record IsServed (v : RegistryView) (c : Command) (a : Answer) (told : Told) (v' : RegistryView) : Type 0 where
  pub mid : ManagerView
  pub applies : Applies v.manager c a told mid
  pub tidies : TidiesUp (remains_after c a) mid v.rows v'.manager v'.rows

-- a command that touches rows is not carried out; any other is
abbrev pub ServesBy : Bool → RegistryView → Command → Option Answer → Told → RegistryView → Type 0
ServesBy true v c result told v' = (result ≡ None) × (told ≡ []) × (v' ≡ v)
ServesBy false v c result told v' = (a : Answer) × (result ≡ Some a) × IsServed v c a told v'

-- the manager locks a path, and the rows stay the same
pub record PathLeavesRows (t : TxnId) (ask : Ask) (v : RegistryView) (result : Result Reached Refusal) (told : Told) (v' : RegistryView) : Type 0 where
  pub path : LocksPath t ask v.manager told result v'.manager
  pub tests : (r : Refusal) → first_refusal (path_tests (state_of v.manager) t ask.0 ask.1) ≡ Some r → (result ≡ Err r) × (v'.manager ≡ v.manager)
  pub others : LeavesAllBut t (state_of v.manager) (said (reaching told) result) (state_of v'.manager)
  pub rule : IfErr result (λ r. missing_parent r ≡ None)
  pub untold : OnErr result (told ≡ [])
  pub rows : v'.rows ≡ v.rows
