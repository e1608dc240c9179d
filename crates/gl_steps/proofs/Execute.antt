-- The model as a program: what a state answers to a command, and what is left. A new node gets the least key above all others, and settling has as many turns
-- as there are waiters.
use Rattle.gl_steps.proofs.Words.{◌+◌, ◌-◌, [], ◌∷◌, accepted_once, Answer, begun_since, born_index, Command, deleted, dropped, false, File, free_slot, granted}
use Rattle.gl_steps.proofs.Words.{if◌then◌else◌, Inner, length, List, lock_answer, min, moved_to, nat_le, Node, NodeId, None, Option, query_answer, raised}
use Rattle.gl_steps.proofs.Words.{range_with_len, Rec, record_parents, Refusal, refusal_of, rekeyed, rekeyed_parents, released, Shape, shed, Some, State}
use Rattle.gl_steps.proofs.Words.{status_of, suc, Told, told, told_but, wanted, with_grant, with_graph, with_parents, without_node, X, zero, ℕ}
use Rattle.gl_steps.specs.declared.command.Answer.TheVariants as answer
use Rattle.gl_steps.specs.declared.command.Command.TheVariants as command
use Rattle.gl_model.specs.Calls.{begun_again, cancelled, covered_children, held_children, joined, joining_age, unlocked}
use Rattle.gl_model.proofs.law.Settle.{locked, settled}
use Rattle.gl_graph.specs.Splits.{merge, next_interval, split}
use Rattle.gl_graph.specs.Over.{keyed}
use Rattle.gl_model.specs.Splits.{merged_by, split_by}
use Rattle.gl_steps.proofs.Made.{adopted, made, next_id}

-- an answer, the notices, and what is left
abbrev pub Outcome : Type 0
Outcome = Answer × Told × State

-- the greater of two numbers
abbrev pub greater : ℕ → ℕ → ℕ
greater a b = if nat_le a b then b else a

-- the number above a node's key
abbrev pub above_key : Option Node → ℕ
above_key None = 0
above_key (Some n) = n.key + 1

-- the least number above the keys of the first so many births
abbrev pub top : (ℕ → Option Node) → ℕ → ℕ
top at zero = 0
top at (suc n) = greater (top at n) (above_key (at (suc n)))

-- the key of the next node
abbrev pub free_key : State → ℕ
free_key s = top s.graph.at s.graph.births

-- the slot found
abbrev pub slot_or_zero : Option ℕ → ℕ
slot_or_zero None = 0
slot_or_zero (Some t) = t

-- the next node
abbrev pub new_node : State → Shape → List NodeId → Node
new_node s shape ps = record { key = free_key s; shape = shape; parents = ps }

-- the keys of the intervals of the next index
abbrev pub interval_keys : State → List ℕ → List ℕ
interval_keys s bs = range_with_len (free_key s + 1) (length bs + 1)

-- one node is made
abbrev pub one_made : State → Shape → List NodeId → Outcome
one_made s shape ps = (answer.Node (next_id s (free_key s)), [], made s (new_node s shape ps))

-- done, and those that wait no more are told
abbrev pub done : State → State → Outcome
done s s' = (answer.Done, told s s', s')

-- a transaction begins in the first free slot
abbrev pub begins : State → ℕ → Outcome
begins s since = let t = slot_or_zero (free_slot s) in (answer.Begun (record { slot = t; age = s.begins + 1 }), [], begun_since s t since)

-- a command that is not refused
abbrev pub go : State → Command → Outcome
go s (command.Inner ps) = one_made s Inner ps.now
go s (command.File ps) = one_made s (File false) ps.now
go s (command.Index ps f bs) = (
  answer.Node (next_id s (free_key s)),
  [],
  with_graph s
      (born_index s.graph (free_key s) ps.now f bs.now (interval_keys s bs.now)),
)
go s command.Begin = begins s (s.begins + 1)
go s (command.BeginAgain since) = begins s (min since (s.begins + 1))
go s (command.Join t since) = (answer.Begun (record { slot = t; age = joining_age s since }), [], joined s t since)
go s (command.Lock t n m) =
    let s' : State = locked s t.slot n m in
    (lock_answer (s'.held t.slot n) (status_of s' t.slot), told_but t.slot s s', s')
go s (command.Try t n m) = (answer.Granted (wanted s t.slot n m), [], granted s t.slot n m)
go s (command.Unlock t n) = done s (unlocked s t.slot n)
go s (command.Escalate t n) =
    let up : State = raised s t.slot n in
    let gone = covered_children up t.slot n in
    let s' = shed up t.slot n in
    (answer.Escalated (record { mode = up.held t.slot n; released = gone; kept = held_children up t.slot n - gone }), told s s', s')
go s (command.Cancel t) = let s' = cancelled s t.slot in (answer.Done, told_but t.slot s s', s')
go s (command.Commit t) = done s (released s t.slot)
go s (command.Renew t since) = (answer.Begun (record { slot = t.slot; age = s.begins + 1 }), [], begun_again s t.slot since)
go s (command.Abort t) = done s (released s t.slot)
go s (command.Settle t) = done s (settled s.victims s t.slot)
go s (command.Insert t f keys) = (
  answer.Node (next_id s (free_key s)),
  [],
  with_grant (made s (new_node s (Rec keys.now) (record_parents s.graph f keys.now))) t.slot
      (next_id s (free_key s)) X,
)
go s (command.Delete t r) = done s (deleted s r)
go s (command.Rekey t r i key) = done s (moved_to s r (rekeyed_parents s.graph r i key) (rekeyed s.graph r i key))
go s (command.Move t n ps) = done s (moved_to s n ps.now (with_parents s.graph n ps.now))
go s (command.Adopt f keys) = (answer.Node (next_id s (free_key s)), [], adopted s (free_key s) f keys.now)
go s (command.Forget r) = (answer.Done, [], with_graph s (without_node s.graph r))
go s (command.Drop t n) = done s (dropped s n)
go s (command.IndexBy t ps f bs rs ks) = (
  answer.Node (next_id s (free_key s)),
  [],
  with_grant
      (with_graph s
      (keyed (born_index s.graph (free_key s) ps.now f bs.now (interval_keys s bs.now)) (next_id s (free_key s)) rs.now ks.now))
      t.slot (next_id s (free_key s)) X,
)
go s (command.Split t i at) =
    let n = next_id s (free_key s) in
    let s' : State = split_by s t.slot i (split s.graph i at (free_key s)) n in
    (answer.Node n, told s s', s')
go s (command.Merge t i) = done s (merged_by s (next_interval s.graph i) (merge s.graph i))
go s c = (answer.Done, [], s)

-- the command is counted
abbrev pub counted : Outcome → Outcome
counted o = (o.0, o.1, accepted_once o.2)

-- a query is answered, any other command is carried out
abbrev pub answered : State → Command → Option Answer → Outcome
answered s c (Some a) = (a, [], s)
answered s c None = counted (go s c)

-- a refusal is answered
abbrev pub tested : State → Command → Option Refusal → Outcome
tested s c (Some r) = (answer.Refused r, [], s)
tested s c None = answered s c (query_answer s c)

-- one command
abbrev pub execute : State → Command → Outcome
execute s c = tested s c (refusal_of s c)

-- the state after these commands, and what was answered to each of them
abbrev pub after : State → List Command → State
after s [] = s
after s (c ∷ cs) = after (execute s c).2 cs

-- what is answered to these commands
abbrev pub replies : State → List Command → List (Answer × Told)
replies s [] = []
replies s (c ∷ cs) = let o = execute s c in (o.0, o.1) ∷ replies o.2 cs
