-- A script between two lines, and the effect of a command: names become ids, and the command is a step of the manager, or steps of it (own).
use Rattle.std.specs.Prelude.{◌≡◌, ◌⊎◌, ℕ, Bool, true, false, List, [], length, map, Option, Some, None, is_some, unwrap_or, if◌then◌else◌}
use Rattle.std.specs.Prelude.{IfOk, OnErr, Result, Ok, Err}
use denote.Bor.{Bor}
use Rattle.gl_modes.specs.declared.mode.Mode.{Mode}
use Rattle.gl_modes.specs.declared.node.NodeId.{NodeId}
use Rattle.gl_modes.specs.declared.refusal.Refusal.{Refusal}
use Rattle.gl_modes.specs.declared.refusal.Refusal.TheVariants as no
use Rattle.gl_graph.specs.Graph.{Graph, interval_at}
use Rattle.gl_graph.specs.Refusals.{first_refusal}
use Rattle.gl_options.specs.declared.requests.Choices.{Choices}
use Rattle.gl_model.specs.declared.txn.TxnId.{TxnId}
use Rattle.gl_model.specs.declared.deadlock.Deadlock.{Deadlock}
use Rattle.gl_model.specs.Deadlocks.{no_deadlock}
use Rattle.gl_model.specs.Calls.{RefusesOnly}
use Rattle.gl_model.specs.State.{State, choosing, empty_state, lives}
use Rattle.gl_model.specs.Tellings.{Told}
use Rattle.gl_table.specs.Orders.{KeepsPlaces}
use Rattle.gl_table.specs.Table.{nodes_of}
use Rattle.gl_steps.specs.declared.command.Answer.{Answer}
use Rattle.gl_steps.specs.declared.command.Answer.TheVariants as answer
use Rattle.gl_steps.specs.declared.command.Command.{Command as Asked}
use Rattle.gl_steps.specs.declared.command.Command.TheVariants as command
use Rattle.gl_catalog.specs.Deadlocks.{KeptBy}
use Rattle.gl_catalog.specs.Manager.{IsLawfulManager, ManagerView, state_of}
use Rattle.gl_catalog.specs.Savepoints.{TakesBack, back_tests}
use Rattle.gl_steps.specs.Step.{Step}
use Rattle.gl_script.specs.declared.form.Language.{Language}
use Rattle.gl_script.specs.declared.form.Version.{Version}
use Rattle.gl_script.specs.declared.form.Version.TheVariants as version
use Rattle.gl_script.specs.declared.verb.LockVerb.{LockVerb}
use Rattle.gl_script.specs.declared.verb.LockVerb.TheVariants.{Unlock, Escalate, Held, Effective}
use Rattle.gl_script.specs.declared.verb.NumberVerb.{NumberVerb}
use Rattle.gl_script.specs.declared.verb.NumberVerb.TheVariants.{Release, Renew}
use Rattle.gl_script.specs.declared.verb.RemovalVerb.{RemovalVerb}
use Rattle.gl_script.specs.declared.verb.RemovalVerb.TheVariants.{Delete, Drop}
use Rattle.gl_script.specs.declared.verb.RequestVerb.{RequestVerb}
use Rattle.gl_script.specs.declared.verb.RequestVerb.TheVariants.{Lock, Try}
use Rattle.gl_script.specs.declared.verb.TxnVerb.{TxnVerb}
use Rattle.gl_script.specs.declared.verb.TxnVerb.TheVariants.{Cancel, Commit, Abort, Settle, Mark}
use Rattle.gl_script.specs.Grammar.{Text, Node, Plain, Interval, Command, Inner, File, Index, IndexBy, IndexOver, Begin, BeginAgain, Join, Insert, Adopt}
use Rattle.gl_script.specs.Grammar.{Forget, Rekey, Move, Split, Merge, Group, OfTxn, OfLock, OfRequest, OfRemoval, OfNumber}
use Rattle.gl_interpreter.specs.declared.request.Request.{Request}
use Rattle.gl_interpreter.specs.declared.request.Request.TheVariants as request
use Rattle.gl_interpreter.specs.declared.request.Said.{Said}
use Rattle.gl_interpreter.specs.declared.request.Said.TheVariants as said
use Rattle.gl_interpreter.specs.Names.{Names, no_names, with_node, with_txn, without_node, without_txn}

-- its language, its declared names, the locks, the deadlock of the last victim, and for each slot the nodes that it holds or waits for, in the order in which
-- they are stored
pub record Script : Type 0 where
  pub language : Language
  pub names : Names
  pub locks : State
  pub deadlock : Deadlock
  pub orders : ℕ → List NodeId

-- no transaction holds anything or waits
abbrev pub no_orders : ℕ → List NodeId
no_orders t = []

-- how many transactions may live at once
abbrev pub most_of : Version → ℕ
most_of version.One = 64
most_of version.Two = 128

-- a script before its first line
abbrev pub begun : Choices → Version → Script
begun c v = record {
  language = record { version = v; listings = c.listings; schema = c.schema; savepoints = c.savepoints; trace = c.trace };
  names = no_names;
  locks =
      choosing c.victims (empty_state c.detect (most_of v));
  deadlock = no_deadlock;
  orders = no_orders;
}

-- an interval of an index
abbrev pub interval_named : Graph → Option NodeId → ℕ → Option NodeId
interval_named g (Some i) k = interval_at g i k
interval_named g None k = None

-- the node with this name, if there is one
abbrev pub node_named : Script → Node → Option NodeId
node_named s (Plain n) = s.names.node n
node_named s (Interval i k) = interval_named s.locks.graph (s.names.node i) k

-- the id of a node; if the name is not in use, an id of no node
abbrev pub node_id : Script → Node → NodeId
node_id s n = unwrap_or (node_named s n) (record { key = 0; birth = 0 })

-- the ids of nodes
abbrev pub node_ids : Script → List Node → List NodeId
node_ids s ns = map (node_id s) ns

-- the id of a node's name; if it is not in use, an id of no node
abbrev pub plain_id : Names → Text → NodeId
plain_id names n = unwrap_or (names.node n) (record { key = 0; birth = 0 })

-- the same for a name of a transaction
abbrev pub txn_id : Names → Text → TxnId
txn_id names t = unwrap_or (names.txn t) (record { slot = 0; age = 0 })

-- the request about a transaction
abbrev pub of_txn : TxnVerb → TxnId → Request
of_txn Cancel t = request.Apply (command.Cancel t)
of_txn Commit t = request.Apply (command.Commit t)
of_txn Abort t = request.Apply (command.Abort t)
of_txn Settle t = request.Apply (command.Settle t)
of_txn Mark t = request.Mark t

-- the command about the lock of a transaction on a node
abbrev pub of_lock : LockVerb → TxnId → NodeId → Asked
of_lock Unlock t n = command.Unlock t n
of_lock Escalate t n = command.Escalate t n
of_lock Held t n = command.Held t n
of_lock Effective t n = command.Effective t n

-- the command that requests a lock
abbrev pub of_request : RequestVerb → TxnId → NodeId → Mode → Asked
of_request Lock t n m = command.Lock t n m
of_request Try t n m = command.Try t n m

-- the command that removes a node
abbrev pub of_removal : RemovalVerb → TxnId → NodeId → Asked
of_removal Delete t n = command.Delete t n
of_removal Drop t n = command.Drop t n

-- the request with a number: a savepoint, or the age of the transaction that began the work
abbrev pub of_number : NumberVerb → TxnId → ℕ → Request
of_number Release t mark = request.Release t mark
of_number Renew t since = request.Apply (command.Renew t since)

-- the request to the manager: the same, with ids for names
abbrev pub Asks : Script → Command → Request → Type 0
Asks s (Inner n ps) k = (xs : Bor (List NodeId)) × (xs.now ≡ node_ids s ps) × (k ≡ request.Apply (command.Inner xs))
Asks s (File n ps) k = (xs : Bor (List NodeId)) × (xs.now ≡ node_ids s ps) × (k ≡ request.Apply (command.File xs))
Asks s (Index n ps f bs) k =
    (xs : Bor (List NodeId)) × (xs.now ≡ node_ids s ps) × ((ys : Bor (List ℕ)) × (ys.now ≡ bs) × (k ≡ request.Apply (command.Index xs (plain_id s.names f) ys)))
Asks s (IndexBy t n ps f bs) k =
    (xs : Bor (List NodeId)) × (xs.now ≡ node_ids s ps)
    × ((ys : Bor (List ℕ)) × (ys.now ≡ bs) × ((rs : Bor (List NodeId)) × (rs.now ≡ []) × ((zs : Bor (List ℕ)) × (zs.now ≡ [])
    × (k ≡ request.Apply (command.IndexBy (txn_id s.names t) xs (plain_id s.names f) ys rs zs)))))
Asks s (IndexOver t n ps f bs rs ks) k =
    (xs : Bor (List NodeId)) × (xs.now ≡ node_ids s ps)
    × ((ys : Bor (List ℕ)) × (ys.now ≡ bs) × ((zs : Bor (List NodeId)) × (zs.now ≡ node_ids s rs) × ((vs : Bor (List ℕ)) × (vs.now ≡ ks)
    × (k ≡ request.Apply (command.IndexBy (txn_id s.names t) xs (plain_id s.names f) ys zs vs)))))
Asks s (Begin t) k = k ≡ request.Apply command.Begin
Asks s (BeginAgain t since) k = k ≡ request.Apply (command.BeginAgain since)
Asks s (Join t slot since) k = k ≡ request.Apply (command.Join slot since)
Asks s (Insert t r f ks) k = (ys : Bor (List ℕ)) × (ys.now ≡ ks) × (k ≡ request.Apply (command.Insert (txn_id s.names t) (plain_id s.names f) ys))
Asks s (Adopt r f ks) k = (ys : Bor (List ℕ)) × (ys.now ≡ ks) × (k ≡ request.Apply (command.Adopt (plain_id s.names f) ys))
Asks s (Forget r) k = k ≡ request.Apply (command.Forget (plain_id s.names r))
Asks s (Rekey t r i key) k = k ≡ request.Apply (command.Rekey (txn_id s.names t) (plain_id s.names r) (plain_id s.names i) key)
Asks s (Move t n ps) k = (xs : Bor (List NodeId)) × (xs.now ≡ node_ids s ps) × (k ≡ request.Apply (command.Move (txn_id s.names t) (node_id s n) xs))
Asks s (Split t n bound) k = k ≡ request.Apply (command.Split (txn_id s.names t) (node_id s n) bound)
Asks s (Merge t n) k = k ≡ request.Apply (command.Merge (txn_id s.names t) (node_id s n))
Asks s (Group n) k = k ≡ request.Apply (command.Group (node_id s n))
Asks s (OfTxn v t) k = k ≡ of_txn v (txn_id s.names t)
Asks s (OfLock v t n) k = k ≡ request.Apply (of_lock v (txn_id s.names t) (node_id s n))
Asks s (OfRequest v t m n) k = k ≡ request.Apply (of_request v (txn_id s.names t) (node_id s n) m)
Asks s (OfRemoval v t n) k = k ≡ request.Apply (of_removal v (txn_id s.names t) (plain_id s.names n))
Asks s (OfNumber v t number) k = k ≡ of_number v (txn_id s.names t) number

-- what a command does to names: it declares that of a node or of a transaction, passes a transaction's to the next, or frees that of a transaction that ends or
-- of a node that is removed; or nothing
pub data Naming : Type 0 where
  NodeName : (name : Text) → Naming
  TxnName : (name : Text) → Naming
  NextTxn : (name : Text) → Naming
  EndedTxn : (name : Text) → Naming
  RemovedNode : (name : Text) → Naming
  Nothing : Naming

abbrev pub does_to_names : Command → Naming
does_to_names (Inner n ps) = NodeName n
does_to_names (File n ps) = NodeName n
does_to_names (Index n ps f bs) = NodeName n
does_to_names (IndexBy t n ps f bs) = NodeName n
does_to_names (IndexOver t n ps f bs rs ks) = NodeName n
does_to_names (Insert t r f ks) = NodeName r
does_to_names (Adopt r f ks) = NodeName r
does_to_names (Begin t) = TxnName t
does_to_names (BeginAgain t k) = TxnName t
does_to_names (Join t slot k) = TxnName t
does_to_names (OfNumber Renew t k) = NextTxn t
does_to_names (OfTxn Commit t) = EndedTxn t
does_to_names (OfTxn Abort t) = EndedTxn t
does_to_names (OfRemoval v t n) = RemovedNode n
does_to_names (Forget r) = RemovedNode r
does_to_names c = Nothing

-- the name is in use, and so cannot be declared; that of a transaction passes to the next
abbrev pub is_in_use : Names → Naming → Bool
is_in_use names (NodeName n) = is_some (names.node n)
is_in_use names (TxnName t) = is_some (names.txn t)
is_in_use names n = false

-- a name is declared, or passes to the next transaction
abbrev pub declares : Naming → Bool
declares (NodeName n) = true
declares (TxnName t) = true
declares (NextTxn t) = true
declares n = false

-- the names after the manager's answer
abbrev pub renamed : Names → Naming → Answer → Names
renamed names (NodeName n) (answer.Node x) = with_node names n x
renamed names (TxnName t) (answer.Begun x) = with_txn names t x
renamed names (NextTxn t) (answer.Begun x) = with_txn (without_txn names t (txn_id names t)) t x
renamed names (EndedTxn t) answer.Done = without_txn names t (txn_id names t)
renamed names (RemovedNode n) answer.Done = without_node names n (plain_id names n)
renamed names n a = names

-- the manager's step; the orders are unchanged if it is not counted, and no lock that stays moves to a later place
pub record Steps (s : Script) (c : Command) (asked : Asked) (a : Said) (told : Told) (s' : Script) : Type 0 where
  pub given : Answer
  pub said_is : a ≡ said.Answer given
  pub step : Step s.locks asked given told s'.locks
  pub deadlock : KeptBy asked s.locks s.deadlock given s'.locks s'.deadlock
  pub orders : s'.locks.accepted ≡ s.locks.accepted → s'.orders ≡ s.orders
  pub places : (t : ℕ) → KeepsPlaces (s.orders t) (s'.orders t)
  pub names : s'.names ≡ renamed s.names (does_to_names c) given

-- the manager has the locks of the script, its last deadlock and its orders; so each order has exactly the nodes that its slot holds or waits for, each once
pub record StandsFor (m : ManagerView) (s : Script) : Type 0 where
  pub lawful : IsLawfulManager m
  pub locks : state_of m ≡ s.locks
  pub deadlock : m.table.deadlock ≡ s.deadlock
  pub orders : (t : ℕ) → nodes_of m.table t ≡ s.orders t

-- some manager stands for the script
abbrev pub IsStoodFor : Script → Type 0
IsStoodFor s = (m : ManagerView) × StandsFor m s

-- a count of nodes, or the refusal
abbrev pub counted : Result ℕ Refusal → Said
counted (Ok k) = said.Count k
counted (Err r) = said.Answer (answer.Refused r)

-- the answer to a mark: how many nodes the transaction holds or waits for, if it lives
abbrev pub mark_of : Script → TxnId → Said
mark_of s t = if lives s.locks t then said.Count (length (s.orders t.slot)) else said.Answer (answer.Refused no.NoSuchTxn)

-- a mark changes nothing, and there are no notices
pub record Marks (s : Script) (t : TxnId) (a : Said) (told : Told) (s' : Script) : Type 0 where
  pub stood : IsStoodFor s
  pub said_is : a ≡ mark_of s t
  pub nobody_told : told ≡ []
  pub same : s' ≡ s

-- a transaction rolls back to a mark, as its manager does it; a refused one changes nothing
pub record Releases (s : Script) (t : TxnId) (mark : ℕ) (a : Said) (told : Told) (s' : Script) : Type 0 where
  pub before : ManagerView
  pub after : ManagerView
  pub stood : StandsFor before s
  pub stands : StandsFor after s'
  pub result : Result ℕ Refusal
  pub said_is : a ≡ counted result
  pub back : IfOk result (λ k. TakesBack t mark k before told after)
  pub refuses : RefusesOnly (first_refusal (back_tests before t mark)) result
  pub untold : OnErr result (told ≡ [])
  pub unchanged : OnErr result (s' ≡ s)
  pub names : s'.names ≡ s.names

-- the request is served
abbrev pub Serves : Script → Command → Request → Said → Told → Script → Type 0
Serves s c (request.Apply asked) a told s' = Steps s c asked a told s'
Serves s c (request.Mark t) a told s' = Marks s t a told s'
Serves s c (request.Release t mark) a told s' = Releases s t mark a told s'

-- the command is passed to the manager, and served
pub record HandedOn (s : Script) (c : Command) (a : Said) (told : Told) (s' : Script) : Type 0 where
  pub asked : Request
  pub asks : Asks s c asked
  pub serves : Serves s c asked a told s'
  pub language : s'.language ≡ s.language

-- the command is refused here, and changes nothing
pub record RefusedHere (r : Refusal) (s : Script) (a : Said) (told : Told) (s' : Script) : Type 0 where
  pub said_is : a ≡ said.Answer (answer.Refused r)
  pub nobody_told : told ≡ []
  pub same : s' ≡ s

-- a name that is in use cannot be declared again; without memory for what is declared, the command is not passed on either
abbrev pub DoesWhere : Bool → Script → Command → Said → Told → Script → Type 0
DoesWhere true s c a told s' = RefusedHere no.NameTaken s a told s'
DoesWhere false s c a told s' = HandedOn s c a told s' ⊎ ((declares (does_to_names c) ≡ true) × RefusedHere no.NoMemory s a told s')

-- the effect of a command of the script
abbrev pub Does : Script → Command → Said → Told → Script → Type 0
Does s c a told s' = DoesWhere (is_in_use s.names (does_to_names c)) s c a told s'
