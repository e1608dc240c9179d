-- One command: its answer, the state that it leaves, and what others are told; and runs of commands.
use Rattle.std.specs.Prelude.{◌≡◌, ◌⊎◌, ℕ, ◌+◌, ◌-◌, false, true, List, [], ◌∷◌, Option, Some, None}
use Rattle.gl_model.specs.declared.txn.Status.{Status}
use Rattle.gl_model.specs.declared.answers.Locked.{Locked}
use Rattle.gl_model.specs.declared.answers.Locked.TheVariants as locked
use Rattle.gl_model.specs.Calls.{locked_as}
use Rattle.gl_steps.specs.declared.command.Answer.{Answer}
use Rattle.gl_steps.specs.declared.command.Command.{Command}
use Rattle.gl_modes.specs.declared.mode.Mode.{Mode}
use Rattle.gl_modes.specs.declared.node.NodeId.{NodeId}
use Rattle.gl_modes.specs.declared.refusal.Refusal.{Refusal}
use Rattle.gl_modes.specs.declared.mode.Mode.TheVariants.{X}
use Rattle.gl_modes.specs.declared.refusal.Refusal.TheVariants as no
use Rattle.gl_steps.specs.declared.command.Answer.TheVariants as answer
use Rattle.gl_steps.specs.declared.command.Command.TheVariants as command
use Rattle.gl_steps.specs.Tests.{may_lack_memory, refusal_of}
use Rattle.gl_graph.specs.Changes.{IsAdopted, IsBorn, IsIndexBorn, rekeyed, rekeyed_parents, with_parents, without_node}
use Rattle.gl_graph.specs.Graph.{record_parents}
use Rattle.gl_graph.specs.Over.{IsIndexOver}
use Rattle.gl_graph.specs.Shapes.{File, Inner, Rec}
use Rattle.gl_graph.specs.Splits.{IsSplit, merge, next_interval}
use Rattle.gl_header.specs.Header.{group_of}
use Rattle.gl_model.specs.Calls.{Locks, accepted_once, begun, begun_again, cancelled, deleted, dropped, free_slot, granted, moved_to, raised, released}
use Rattle.gl_model.specs.Calls.{joined, joining_age, shed, unlocked, wanted}
use Rattle.gl_model.specs.Calls.{covered_children, held_children}
use Rattle.gl_model.specs.Lawful.{effective}
use Rattle.gl_model.specs.Splits.{merged_by, split_by}
use Rattle.gl_model.specs.State.{State, members, status_of, with_grant, with_graph, Settled}
use Rattle.gl_model.specs.Tellings.{Told, told, told_but}

-- the answer of a lock
abbrev pub answer_of_lock : Locked → Answer
answer_of_lock (locked.Granted m) = answer.Granted m
answer_of_lock locked.Waiting = answer.Waiting
answer_of_lock locked.Victim = answer.Victim

-- the same by the held mode and the requester's status at the end
abbrev pub lock_answer : Mode → Option Status → Answer
lock_answer held o = answer_of_lock (locked_as held o)

-- a command that is not refused: what it answers, tells, and leaves, the count of accepted commands aside
abbrev pub Accepts : State → Command → Answer → Told → State → Type 0
Accepts s (command.Inner ps) a told' s' =
    (n : NodeId) × IsBorn s.graph s'.graph n Inner ps.now × (a ≡ answer.Node n) × (told' ≡ []) × (s' ≡ with_graph s s'.graph)
Accepts s (command.File ps) a told' s' =
    (n : NodeId) × IsBorn s.graph s'.graph n (File false) ps.now × (a ≡ answer.Node n) × (told' ≡ []) × (s' ≡ with_graph s s'.graph)
Accepts s (command.Index ps f bs) a told' s' =
    (n : NodeId) × IsIndexBorn s.graph s'.graph n ps.now f bs.now × (a ≡ answer.Node n) × (told' ≡ []) × (s' ≡ with_graph s s'.graph)
Accepts s command.Begin a told' s' =
    (t : ℕ) × (free_slot s ≡ Some t) × (a ≡ answer.Begun (record { slot = t; age = s.begins + 1 })) × (told' ≡ []) × (s' ≡ begun s t)
Accepts s (command.BeginAgain since) a told' s' =
    (t : ℕ) × (free_slot s ≡ Some t) × (a ≡ answer.Begun (record { slot = t; age = s.begins + 1 })) × (told' ≡ []) × (s' ≡ begun_again s t since)
Accepts s (command.Join t since) a told' s' =
    (a ≡ answer.Begun (record { slot = t; age = joining_age s since })) × (told' ≡ []) × (s' ≡ joined s t since)
Accepts s (command.Lock t n m) a told' s' = Locks s t.slot n m s' × (a ≡ lock_answer (s'.held t.slot n) (status_of s' t.slot)) × (told' ≡ told_but t.slot s s')
Accepts s (command.Try t n m) a told' s' = (a ≡ answer.Granted (wanted s t.slot n m)) × (told' ≡ []) × (s' ≡ granted s t.slot n m)
Accepts s (command.Unlock t n) a told' s' = (a ≡ answer.Done) × (told' ≡ told s s') × (s' ≡ unlocked s t.slot n)
Accepts s (command.Escalate t n) a told' s' =
    let up : State = raised s t.slot n in
    let gone = covered_children up t.slot n in
    (a ≡ answer.Escalated (record { mode = up.held t.slot n; released = gone; kept = held_children up t.slot n - gone })) × (told' ≡ told s s')
    × (s' ≡ shed up t.slot n)
Accepts s (command.Cancel t) a told' s' = (a ≡ answer.Done) × (told' ≡ told_but t.slot s s') × (s' ≡ cancelled s t.slot)
Accepts s (command.Commit t) a told' s' = (a ≡ answer.Done) × (told' ≡ told s s') × (s' ≡ released s t.slot)
Accepts s (command.Renew t since) a told' s' =
    (a ≡ answer.Begun (record { slot = t.slot; age = s.begins + 1 })) × (told' ≡ []) × (s' ≡ begun_again s t.slot since)
Accepts s (command.Abort t) a told' s' = (a ≡ answer.Done) × (told' ≡ told s s') × (s' ≡ released s t.slot)
Accepts s (command.Settle t) a told' s' = (a ≡ answer.Done) × (told' ≡ told s s') × Settled s.victims s t.slot s'
Accepts s (command.Insert t f keys) a told' s' =
    (n : NodeId) × IsBorn s.graph s'.graph n (Rec keys.now) (record_parents s.graph f keys.now) × (a ≡ answer.Node n) × (told' ≡ [])
    × (s' ≡ with_grant (with_graph s s'.graph) t.slot n X)
Accepts s (command.Delete t r) a told' s' = (a ≡ answer.Done) × (told' ≡ told s s') × (s' ≡ deleted s r)
Accepts s (command.Rekey t r i key) a told' s' =
    (a ≡ answer.Done) × (told' ≡ told s s') × (s' ≡ moved_to s r (rekeyed_parents s.graph r i key) (rekeyed s.graph r i key))
Accepts s (command.Move t n ps) a told' s' = (a ≡ answer.Done) × (told' ≡ told s s') × (s' ≡ moved_to s n ps.now (with_parents s.graph n ps.now))
Accepts s (command.Group n) a told' s' = ⊥
Accepts s (command.Held t n) a told' s' = ⊥
Accepts s (command.Effective t n) a told' s' = ⊥
Accepts s (command.Adopt f keys) a told' s' =
    (n : NodeId) × IsAdopted s.graph s'.graph n f keys.now × (a ≡ answer.Node n) × (told' ≡ []) × (s' ≡ with_graph s s'.graph)
Accepts s (command.Forget r) a told' s' = (a ≡ answer.Done) × (told' ≡ []) × (s' ≡ with_graph s (without_node s.graph r))
Accepts s (command.Drop t n) a told' s' = (a ≡ answer.Done) × (told' ≡ told s s') × (s' ≡ dropped s n)
Accepts s (command.IndexBy t ps f bs rs ks) a told' s' =
    (n : NodeId) × IsIndexOver s.graph s'.graph n ps.now f bs.now rs.now ks.now × (a ≡ answer.Node n) × (told' ≡ [])
    × (s' ≡ with_grant (with_graph s s'.graph) t.slot n X)
Accepts s (command.Split t i at) a told' s' =
    (n : NodeId) × IsSplit s.graph s'.graph i n at × (a ≡ answer.Node n) × (told' ≡ told s s') × (s' ≡ split_by s t.slot i s'.graph n)
Accepts s (command.Merge t i) a told' s' =
    (a ≡ answer.Done) × (told' ≡ told s s') × (s' ≡ merged_by s (next_interval s.graph i) (merge s.graph i))

-- what a query answers; no other command is one
abbrev pub query_answer : State → Command → Option Answer
query_answer s (command.Group n) = Some (answer.Mode (group_of s.most (members s n)))
query_answer s (command.Held t n) = Some (answer.Mode (s.held t.slot n))
query_answer s (command.Effective t n) = Some (answer.Effect (effective s t.slot n))
query_answer s c = None

-- this answer, nobody told, and the state as it was
pub record Unchanged (s : State) (a : Answer) (told' : Told) (s' : State) (is : Answer) : Type 0 where
  pub answer_is : a ≡ is
  pub nobody_told : told' ≡ []
  pub same : s' ≡ s

-- a query is answered, and changes nothing; any other command is accepted, and counted
abbrev pub Answers : State → Command → Option Answer → Answer → Told → State → Type 0
Answers s c (Some q) a told' s' = Unchanged s a told' s' q
Answers s c None a told' s' = (next : State) × Accepts s c a told' next × (s' ≡ accepted_once next)

-- a refused command is answered with its refusal, and changes nothing; any other is carried out
abbrev pub Goes : State → Command → Option Refusal → Answer → Told → State → Type 0
Goes s c (Some r) a told' s' = Unchanged s a told' s' (answer.Refused r)
Goes s c None a told' s' = Answers s c (query_answer s c) a told' s'

-- one step: the command is refused or carried out, or lacks memory if that is permitted
abbrev pub Step : State → Command → Answer → Told → State → Type 0
Step s c a told' s' =
    Goes s c (refusal_of s c) a told' s'
    ⊎ ((may_lack_memory s c ≡ true) × Unchanged s a told' s' (answer.Refused no.NoMemory))

-- steps along a list of commands, with a reply to each
abbrev pub Run : State → List Command → List (Answer × Told) → State → Type 0
Run s [] [] s' = s' ≡ s
Run s (c ∷ cs) (r ∷ rs) s' = (mid : State) × Step s c r.0 r.1 mid × Run mid cs rs s'
Run s [] (r ∷ rs) s' = ⊥
Run s (c ∷ cs) [] s' = ⊥
