-- Replies to the questions of a listing.
use Rattle.std.specs.Prelude.{List, Option, Some, None, if◌then◌else◌}
use Rattle.gl_modes.specs.declared.mode.Mode.{Mode}
use Rattle.gl_modes.specs.declared.mode.Mode.TheVariants.{NL}
use Rattle.gl_modes.specs.declared.node.NodeId.{NodeId}
use Rattle.gl_modes.specs.Nodes.{same_node}
use Rattle.gl_modes.specs.declared.refusal.Refusal.{Refusal}
use Rattle.gl_modes.specs.declared.refusal.Refusal.TheVariants as no
use Rattle.gl_header.specs.Header.{Waiter}
use Rattle.gl_model.specs.declared.answers.LockRow.{LockRow}
use Rattle.gl_model.specs.declared.txn.Status.{Status}
use Rattle.gl_model.specs.declared.txn.Status.TheVariants.{Active, Waiting, Condemned}
use Rattle.gl_model.specs.declared.txn.TxnId.{TxnId}
use Rattle.gl_model.specs.Deadlocks.{name_at}
use Rattle.gl_model.specs.State.{State}
use Rattle.gl_c.specs.declared.answers.reply.Reply.{Reply}
use Rattle.gl_c.specs.Names.{node_of, txn_of}
use Rattle.gl_c.specs.Numbers.{done, mode_number, no_place}
use Rattle.gl_c.specs.answers.Replies.{count_reply, refused_reply, status_reply}

-- the transaction in a slot
abbrev pub lived : Option (TxnId × Status) → Reply
lived (Some x) = record (status_reply done) { txn = txn_of x.0 }
lived None = status_reply no_place

-- what a transaction is doing: 1 if it may request locks, 2 if it waits for a node, in the wanted mode, 3 if it is condemned
abbrev pub doing : Option Status → Reply
doing (Some Active) = count_reply 1
doing (Some (Waiting n wanted)) = record (count_reply 2) { node = node_of n; mode = mode_number wanted }
doing (Some Condemned) = count_reply 3
doing None = refused_reply no.NoSuchTxn

-- the wanted mode, if this is the node that the transaction waits for; otherwise NL
abbrev pub wanted_on : Option (NodeId × Mode) → NodeId → Mode
wanted_on None n = NL
wanted_on (Some x) n = if same_node x.0 n then x.1 else NL

-- a node that a transaction with this wait holds or waits for, with the count of held children
abbrev pub row_reply : Option (NodeId × Mode) → Option LockRow → Reply
row_reply wait (Some r) = record (count_reply r.children) { node = node_of r.node; mode = mode_number r.mode; wanted = mode_number (wanted_on wait r.node) }
row_reply wait None = status_reply no_place

-- a transaction that waits for a node
abbrev pub waiter_reply : State → Option Waiter → Reply
waiter_reply s (Some x) = record (status_reply done) { txn = txn_of (name_at s x.0); mode = mode_number x.1 }
waiter_reply s None = status_reply no_place

-- a reply about a node's queue, or the refusal
abbrev pub of_queue : Option Refusal → (List Waiter → Reply) → List Waiter → Reply
of_queue None answer queue = answer queue
of_queue (Some r) answer queue = refused_reply r
