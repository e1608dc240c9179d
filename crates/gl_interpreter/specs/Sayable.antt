-- Each command of a manager is one of a script, if names mean what it uses.
use Rattle.std.specs.Prelude.{◌≡◌, ◌≢◌, true, List, All}
use Rattle.gl_modes.specs.declared.node.NodeId.{NodeId}
use Rattle.gl_model.specs.declared.txn.TxnId.{TxnId}
use Rattle.gl_steps.specs.declared.command.Command.{Command as Asked}
use Rattle.gl_steps.specs.declared.command.Command.TheVariants as command
use Rattle.gl_script.specs.declared.form.Language.{Language}
use Rattle.gl_script.specs.declared.form.Version.TheVariants as version
use Rattle.gl_script.specs.Grammar.{Text, Node, Command, IsName, IsNode, IsNumber, IsCommand, IsOfLanguage, AreSomeNodes}
use Rattle.gl_interpreter.specs.declared.request.Request.TheVariants as request
use Rattle.gl_interpreter.specs.Script.{Script, Asks, node_id, node_ids, plain_id, txn_id}

-- a name means this transaction
abbrev pub IsTxnSaid : Script → TxnId → Type 0
IsTxnSaid s t = (name : Text) × IsName name × (txn_id s.names name ≡ t)

-- a name means this node
abbrev pub IsPlainSaid : Script → NodeId → Type 0
IsPlainSaid s x = (name : Text) × IsName name × (plain_id s.names name ≡ x)

-- a name means this node, or an index's name and a number do
abbrev pub IsNodeSaid : Script → NodeId → Type 0
IsNodeSaid s x = (node : Node) × IsNode node × (node_id s node ≡ x)

-- so for each of these nodes
abbrev pub AreSaid : Script → List NodeId → Type 0
AreSaid s xs = (nodes : List Node) × All IsNode nodes × (node_ids s nodes ≡ xs)

-- so for each, and there is one
abbrev pub AreSomeSaid : Script → List NodeId → Type 0
AreSomeSaid s xs = (nodes : List Node) × AreSomeNodes nodes × (node_ids s nodes ≡ xs)

-- names mean what the command uses, its numbers are values of a `u64`, and its file or index has a parent
abbrev pub IsSayable : Script → Asked → Type 0
IsSayable s (command.Inner ps) = AreSaid s ps.now
IsSayable s (command.File ps) = AreSomeSaid s ps.now
IsSayable s (command.Index ps f bs) = AreSomeSaid s ps.now × IsPlainSaid s f × All IsNumber bs.now
IsSayable s command.Begin = Unit
IsSayable s (command.BeginAgain since) = IsNumber since
IsSayable s (command.Join slot since) = IsNumber slot × IsNumber since
IsSayable s (command.Lock t n m) = IsTxnSaid s t × IsNodeSaid s n
IsSayable s (command.Try t n m) = IsTxnSaid s t × IsNodeSaid s n
IsSayable s (command.Unlock t n) = IsTxnSaid s t × IsNodeSaid s n
IsSayable s (command.Escalate t n) = IsTxnSaid s t × IsNodeSaid s n
IsSayable s (command.Cancel t) = IsTxnSaid s t
IsSayable s (command.Commit t) = IsTxnSaid s t
IsSayable s (command.Renew t since) = IsTxnSaid s t × IsNumber since
IsSayable s (command.Abort t) = IsTxnSaid s t
IsSayable s (command.Settle t) = IsTxnSaid s t
IsSayable s (command.Insert t f keys) = IsTxnSaid s t × IsPlainSaid s f × All IsNumber keys.now
IsSayable s (command.Delete t r) = IsTxnSaid s t × IsPlainSaid s r
IsSayable s (command.Rekey t r i key) = IsTxnSaid s t × IsPlainSaid s r × IsPlainSaid s i × IsNumber key
IsSayable s (command.Move t n ps) = IsTxnSaid s t × IsNodeSaid s n × AreSaid s ps.now
IsSayable s (command.Group n) = IsNodeSaid s n
IsSayable s (command.Held t n) = IsTxnSaid s t × IsNodeSaid s n
IsSayable s (command.Effective t n) = IsTxnSaid s t × IsNodeSaid s n
IsSayable s (command.Adopt f keys) = IsPlainSaid s f × All IsNumber keys.now
IsSayable s (command.Forget r) = IsPlainSaid s r
IsSayable s (command.Drop t n) = IsTxnSaid s t × IsPlainSaid s n
IsSayable s (command.IndexBy t ps f bs rs ks) =
    IsTxnSaid s t × AreSomeSaid s ps.now × IsPlainSaid s f × All IsNumber bs.now × AreSaid s rs.now × All IsNumber ks.now
IsSayable s (command.Split t i bound) = IsTxnSaid s t × IsNodeSaid s i × IsNumber bound
IsSayable s (command.Merge t i) = IsTxnSaid s t × IsNodeSaid s i

-- version 2, with schema changes and traces
pub record HasAllCommands (l : Language) : Type 0 where
  pub version : l.version ≢ version.One
  pub schema : l.schema ≡ true
  pub trace : l.trace ≡ true

-- a command of the script asks the manager for this; what it declares, if anything, gets the given name
abbrev pub IsSaid : Script → Text → Asked → Type 0
IsSaid s name asked = (c : Command) × IsCommand c × IsOfLanguage s.language c × Asks s c (request.Apply asked)

abbrev pub EachIsSaid : Type 0
EachIsSaid = (s : Script) (name : Text) (asked : Asked) → HasAllCommands s.language → IsName name → IsSayable s asked → IsSaid s name asked
