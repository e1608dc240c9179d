-- What a manager counts: what each command adds to its counters.
use Rattle.std.specs.Prelude.{ℕ, ◌+◌, ◌-◌, Bool, true, false, not, ◌&&◌, length, max, min, if◌then◌else◌}
use Rattle.std.specs.List.{count_by}
use Rattle.gl_modes.specs.declared.mode.Mode.{Mode}
use Rattle.gl_modes.specs.declared.mode.Mode.TheVariants.{NL}
use Rattle.gl_modes.specs.declared.node.NodeId.{NodeId}
use Rattle.gl_modes.specs.Modes.{same_mode}
use Rattle.gl_graph.specs.Refusals.{max_count}
use Rattle.gl_header.specs.Header.{holds, is_empty}
use Rattle.gl_model.specs.declared.answers.Locked.{Locked}
use Rattle.gl_model.specs.declared.answers.Locked.TheVariants as locked
use Rattle.gl_model.specs.declared.answers.Notice.{Notice}
use Rattle.gl_model.specs.declared.answers.Notice.TheVariants as notice
use Rattle.gl_model.specs.declared.txn.TxnId.{TxnId}
use Rattle.gl_model.specs.State.{State, lives, members, slots, status_of, is_wait}
use Rattle.gl_model.specs.Tellings.{Told}
use Rattle.gl_steps.specs.declared.command.Answer.{Answer}
use Rattle.gl_steps.specs.declared.command.Answer.TheVariants as answer
use Rattle.gl_steps.specs.declared.command.Command.{Command}
use Rattle.gl_steps.specs.declared.command.Command.TheVariants as command
use Rattle.gl_catalog.specs.declared.counters.Counters.{Counters}

-- the counters of a new manager
abbrev pub no_counts : Counters
no_counts =
    record {
      granted = 0;
      waited = 0;
      conversions = 0;
      passed = 0;
      granted_later = 0;
      victims = 0;
      moved = 0;
      gone = 0;
      escalations = 0;
      released_children = 0;
      most_waiting = 0;
      longest_queue = 0;
    }

-- a count raised by so many, up to the greatest count
abbrev pub rises : ℕ → ℕ → ℕ
rises k n = k + min n (max_count - k)

-- one if true, else none
abbrev pub one_if : Bool → ℕ
one_if true = 1
one_if false = 0

-- the answer grants a mode
abbrev pub grants : Answer → Bool
grants (answer.Granted m) = true
grants a = false

-- the answer leaves its requester waiting
abbrev pub waits : Answer → Bool
waits answer.Waiting = true
waits a = false

-- the answer condemns its requester
abbrev pub condemns : Answer → Bool
condemns answer.Victim = true
condemns a = false

-- the answer refuses
abbrev pub refuses : Answer → Bool
refuses (answer.Refused r) = true
refuses a = false

-- t lives and holds n
abbrev pub holds_already : State → TxnId → NodeId → Bool
holds_already s t n = lives s t && holds (members s n) t.slot

-- a request by lock or try for a node that its transaction already holds
abbrev pub converts : State → Command → Bool
converts s (command.Lock t n m) = holds_already s t n
converts s (command.Try t n m) = holds_already s t n
converts s c = false

-- a node was held in one mode and then in another, and then a transaction waits for it
abbrev pub raise_passes : State → NodeId → Mode → Mode → Bool
raise_passes s n before after = not (same_mode before NL) && not (same_mode after before) && not (is_empty (s.queue n))

-- the same for a lock with this answer, by the mode held before
abbrev pub lock_passes : State → NodeId → Mode → Locked → Bool
lock_passes s n before (locked.Granted m) = raise_passes s n before m
lock_passes s n before x = false

-- t lives, held n, and holds it in another mode after a command that left s', in which a transaction waits for n
abbrev pub passes_at : State → TxnId → NodeId → State → Bool
passes_at s t n s' = lives s t && raise_passes s' n (s.held t.slot n) (s'.held t.slot n)

-- a lock, a try or an escalation that changes the mode of a held node for which a transaction still waits
abbrev pub passes : State → Command → State → Bool
passes s (command.Lock t n m) s' = passes_at s t n s'
passes s (command.Try t n m) s' = passes_at s t n s'
passes s (command.Escalate t n) s' = passes_at s t n s'
passes s c s' = false

-- an escalation was done
abbrev pub escalates : Answer → Bool
escalates (answer.Escalated x) = true
escalates a = false

-- how many children it released
abbrev pub released_by : Answer → ℕ
released_by (answer.Escalated x) = x.released
released_by a = 0

-- the notice tells of a grant
abbrev pub is_grant : TxnId × Notice → Bool
is_grant (t, notice.Granted n m) = true
is_grant (t, x) = false

-- it tells of a condemnation
abbrev pub is_victim : TxnId × Notice → Bool
is_victim (t, notice.Victim) = true
is_victim (t, x) = false

-- it tells that the node moved
abbrev pub is_moved : TxnId × Notice → Bool
is_moved (t, notice.Moved) = true
is_moved (t, x) = false

-- it tells that the node is gone
abbrev pub is_gone : TxnId × Notice → Bool
is_gone (t, notice.Gone) = true
is_gone (t, x) = false

-- how many transactions wait
abbrev pub waiting_in : State → ℕ
waiting_in s = count_by (λ t. is_wait (status_of s t)) (slots s)

-- the length of the queue of the node that a lock requests
abbrev pub queue_asked : Command → State → ℕ
queue_asked (command.Lock t n m) s = length (s.queue n)
queue_asked c s = 0

-- the law of a step: the counters after a command in state s that was answered a, told these and left s', if they were k before. A refusal adds nothing.
-- Notices of grants are of requests that waited, so `granted` does not count them; a victim was told so by a notice or by the answer to its own lock.
abbrev pub counted : State → Command → Answer → Told → State → Counters → Counters
counted s c a told' s' k =
    record {
      granted = rises k.granted (one_if (grants a));
      waited = rises k.waited (one_if (waits a));
      conversions = rises k.conversions (one_if (not (refuses a) && converts s c));
      passed = rises k.passed (one_if (not (refuses a) && passes s c s'));
      granted_later = rises k.granted_later (count_by is_grant told');
      victims = rises k.victims (count_by is_victim told' + one_if (condemns a));
      moved = rises k.moved (count_by is_moved told');
      gone = rises k.gone (count_by is_gone told');
      escalations = rises k.escalations (one_if (escalates a));
      released_children = rises k.released_children (released_by a);
      most_waiting = max k.most_waiting (if waits a then waiting_in s' else 0);
      longest_queue = max k.longest_queue (if waits a then queue_asked c s' else 0);
    }

-- the counters with one notice
abbrev pub with_notice : Notice → Counters → Counters
with_notice (notice.Granted n m) k = record k { granted_later = rises k.granted_later 1 }
with_notice notice.Victim k = record k { victims = rises k.victims 1 }
with_notice notice.Moved k = record k { moved = rises k.moved 1 }
with_notice notice.Gone k = record k { gone = rises k.gone 1 }

-- the counters with the notices of one command
abbrev pub with_notices : Told → Counters → Counters
with_notices told' k =
    record k {
      granted_later = rises k.granted_later (count_by is_grant told');
      victims = rises k.victims (count_by is_victim told');
      moved = rises k.moved (count_by is_moved told');
      gone = rises k.gone (count_by is_gone told');
    }

-- the counters after a lock of n that left state s, was answered a and told these; it converts if its transaction held n before, and may pass a waiter
abbrev pub lock_counted : State → NodeId → Bool → Bool → Answer → Told → Counters → Counters
lock_counted s n converts' passes' a told' k =
    record k {
      granted = rises k.granted (one_if (grants a));
      waited = rises k.waited (one_if (waits a));
      conversions = rises k.conversions (one_if converts');
      passed = rises k.passed (one_if passes');
      granted_later = rises k.granted_later (count_by is_grant told');
      victims = rises k.victims (count_by is_victim told' + one_if (condemns a));
      moved = rises k.moved (count_by is_moved told');
      gone = rises k.gone (count_by is_gone told');
      most_waiting = max k.most_waiting (if waits a then waiting_in s else 0);
      longest_queue = max k.longest_queue (if waits a then length (s.queue n) else 0);
    }
