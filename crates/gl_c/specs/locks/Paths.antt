-- A call that locks a node after what must be held above it.
use Rattle.std.specs.Prelude.{◌&&◌, not, Bool, true, false, Result, Ok, Err, if◌then◌else◌, Some}
use Rattle.gl_modes.specs.declared.node.NodeId.{NodeId}
use Rattle.gl_modes.specs.declared.refusal.Refusal.{Refusal}
use Rattle.gl_modes.specs.Nodes.{same_node}
use Rattle.gl_model.specs.declared.answers.Locked.{Locked}
use Rattle.gl_model.specs.declared.answers.Locked.TheVariants as locked
use Rattle.gl_model.specs.declared.txn.TxnId.{TxnId}
use Rattle.gl_model.specs.Tellings.{Told}
use Rattle.gl_steps.specs.declared.command.Answer.TheVariants as answer
use Rattle.gl_catalog.specs.declared.manager.paths.Reached.{Reached}
use Rattle.gl_catalog.specs.Paths.{Ask}
use Rattle.gl_catalog.specs.Counters.{grants}
use Rattle.gl_steps.specs.Step.{answer_of_lock}
use Rattle.gl_slots.specs.Slots.{has_none, has_slot}
use Rattle.gl_slots.specs.declared.slots.Slots.{Slots}
use Rattle.gl_header.specs.Header.{is_empty}
use Rattle.gl_c.specs.declared.answers.reply.Reply.{Reply}
use Rattle.gl_c.specs.managers.Carries.{CallOf, acts}
use Rattle.gl_c.specs.Names.{node_of}
use Rattle.gl_c.specs.Numbers.{on_the_way, victim, waiting}
use Rattle.gl_c.specs.answers.Replies.{refused_reply, reply_of, status_reply}
use Rattle.gl_waiting.specs.Asking.{InTurn, LocksPath}

-- a reply with this node
abbrev pub reply_at : NodeId → Reply → Reply
reply_at n r = record r { node = node_of n }

-- the reply for the last request of a path to n: the mode of n itself, or the node and the outcome of its request
abbrev pub reached_reply : NodeId → NodeId → Locked → Reply
reached_reply n at (locked.Granted m) = if same_node at n then reply_of (answer.Granted m) else reply_at at (status_reply on_the_way)
reached_reply n at locked.Waiting = reply_at at (status_reply waiting)
reached_reply n at locked.Victim = reply_at at (status_reply victim)

-- the reply for a path, which may be refused
abbrev pub path_reply : NodeId → Result Reached Refusal → Reply
path_reply n (Ok x) = reached_reply n x.node x.locked
path_reply n (Err r) = refused_reply r

-- the lock is left waiting
abbrev pub is_left_waiting : Locked → Bool
is_left_waiting locked.Waiting = true
is_left_waiting x = false

-- the path leaves its transaction waiting
abbrev pub ends_waiting : Result Reached Refusal → Bool
ends_waiting (Ok x) = is_left_waiting x.locked
ends_waiting (Err r) = false

-- the last request of the path is granted or refused
abbrev pub goes_well : Result Reached Refusal → Bool
goes_well (Ok x) = grants (answer_of_lock x.locked)
goes_well (Err r) = true

-- whether a path is known to have left all waits as they were, by the parties to waits before it
abbrev pub leaves_on_path : Slots → TxnId → Result Reached Refusal → Told → Bool
leaves_on_path parties t result told =
    if has_none parties then not (ends_waiting result) else is_empty told && (goes_well result && not (has_slot parties t.slot))

-- the call that locks a node after what must be held above it
abbrev pub path_call : TxnId → Ask → CallOf (Result Reached Refusal)
path_call t ask = record {
  does = λ v result told off v'. InTurn v (λ ended mid. LocksPath v t ask result told ended mid) off v';
  spares = λ result told known. leaves_on_path known t result told;
  says = path_reply ask.0;
  rests = acts (Some t.slot);
}
