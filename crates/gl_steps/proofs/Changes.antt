-- How an accepted command changes a state: a few kinds, so that what every command keeps is proved once for each kind.
use Rattle.std.specs.Prelude.{◌≡◌, ℕ, ◌+◌, Bool, List, min, Some, None}
use Rattle.gl_modes.specs.declared.mode.Mode.{Mode}
use Rattle.gl_modes.specs.declared.mode.Mode.TheVariants.{X}
use Rattle.gl_modes.specs.declared.node.NodeId.{NodeId}
use Rattle.gl_modes.specs.Nodes.{same_node}
use Rattle.gl_graph.specs.Changes.{rekeyed, rekeyed_parents, with_parents, without_branch, without_node}
use Rattle.gl_graph.specs.Graph.{Graph}
use Rattle.gl_graph.specs.Refusals.{worn_births}
use Rattle.gl_graph.specs.Splits.{IsSplit, merge, next_interval}
use Rattle.gl_graph.proofs.Unrefused.{not_refused}
use Rattle.gl_model.specs.declared.txn.Status.TheVariants.{Active}
use Rattle.gl_model.specs.declared.txn.TxnId.{TxnId}
use Rattle.gl_model.specs.Calls.{Locks, begun_at, cancelled, departed, goes_with, granted, joining_age, moved_to, raised, released, shed, unlocked}
use Rattle.gl_model.specs.Splits.{split_by}
use Rattle.gl_model.specs.State.{Settled, State, status_of, with_grant, with_graph}
use Rattle.gl_model.specs.Tellings.{Told}
use Rattle.gl_model.proofs.law.Tests.{active_after}
use Rattle.gl_steps.specs.declared.command.Answer.{Answer}
use Rattle.gl_steps.specs.declared.command.Command.{Command}
use Rattle.gl_steps.specs.declared.command.Command.TheVariants as command
use Rattle.gl_steps.specs.Step.{Accepts, lock_answer}
use Rattle.gl_steps.specs.Tests.{refusal_of, worn}
use Rattle.gl_steps.proofs.SchemaKeeps.{may_index}

-- the next state, after a command with this answer
pub data Change (s : State) (a : Answer) (next : State) : Type 0 where
  Regraphed : (g : Graph) → next ≡ with_graph s g → Change s a next
  Born : (t : TxnId) (n : NodeId) (g : Graph) → status_of s t.slot ≡ Some Active → n.birth ≡ s.graph.births + 1
      → next ≡ with_grant (with_graph s g) t.slot n X → Change s a next
  Begun : (u age since : ℕ) → next ≡ begun_at s u age since → Change s a next
  Locked : (t : TxnId) (n : NodeId) (m : Mode) → refusal_of s (command.Lock t n m) ≡ None → Locks s t.slot n m next
      → a ≡ lock_answer (next.held t.slot n) (status_of next t.slot) → Change s a next
  Granted : (t : TxnId) (n : NodeId) (m : Mode) → refusal_of s (command.Try t n m) ≡ None → next ≡ granted s t.slot n m → Change s a next
  Unlocked : (t : TxnId) (n : NodeId) → refusal_of s (command.Unlock t n) ≡ None → next ≡ unlocked s t.slot n → Change s a next
  Shed : (t : TxnId) (n : NodeId) → refusal_of s (command.Escalate t n) ≡ None → next ≡ shed (raised s t.slot n) t.slot n → Change s a next
  Cancelled : (t : TxnId) → next ≡ cancelled s t.slot → Change s a next
  Released : (t : TxnId) → next ≡ released s t.slot → Change s a next
  Settles : (t : TxnId) → Settled s.victims s t.slot next → Change s a next
  Departed : (goes : NodeId → Bool) (g : Graph) → next ≡ departed s goes g → Change s a next
  Parted : (t : TxnId) (i n : NodeId) (at : ℕ) (g : Graph) → refusal_of s (command.Split t i at) ≡ None → IsSplit s.graph g i n at
      → next ≡ split_by s t.slot i g n → Change s a next
  Moved : (n : NodeId) (ps : List NodeId) (g : Graph) → next ≡ moved_to s n ps g → Change s a next

-- the kind of each command; a query is never accepted
abbrev pub change_of : (s : State) (c : Command) (a : Answer) (told : Told) (next : State) → refusal_of s c ≡ None → Accepts s c a told next → Change s a next
change_of s (command.Inner ps) a told next free acc = Regraphed next.graph acc.4
change_of s (command.File ps) a told next free acc = Regraphed next.graph acc.4
change_of s (command.Index ps f bs) a told next free acc = Regraphed next.graph acc.4
change_of s command.Begin a told next free acc = Begun acc.0 (s.begins + 1) (s.begins + 1) acc.4
change_of s (command.BeginAgain since) a told next free acc = Begun acc.0 (s.begins + 1) (min since (s.begins + 1)) acc.4
change_of s (command.Join t since) a told next free acc = Begun t (joining_age s since) since acc.2
change_of s (command.Lock t n m) a told next free acc = Locked t n m free acc.0 acc.1
change_of s (command.Try t n m) a told next free acc = Granted t n m free acc.2
change_of s (command.Unlock t n) a told next free acc = Unlocked t n free acc.2
change_of s (command.Escalate t n) a told next free acc = Shed t n free acc.2
change_of s (command.Cancel t) a told next free acc = Cancelled t acc.2
change_of s (command.Commit t) a told next free acc = Released t acc.2
change_of s (command.Renew t since) a told next free acc = Begun t.slot (s.begins + 1) (min since (s.begins + 1)) acc.2
change_of s (command.Abort t) a told next free acc = Released t acc.2
change_of s (command.Settle t) a told next free acc = Settles t acc.2
change_of s (command.Insert t f keys) a told next free acc =
    Born t acc.0 next.graph (active_after s t f (worn_births s.graph) _ (not_refused (worn s) _ free).1).0 acc.1.birth acc.4
change_of s (command.Delete t r) a told next free acc = Departed (λ n. same_node n r) (without_node s.graph r) acc.2
change_of s (command.Rekey t r i key) a told next free acc = Moved r (rekeyed_parents s.graph r i key) (rekeyed s.graph r i key) acc.2
change_of s (command.Move t n ps) a told next free acc = Moved n ps.now (with_parents s.graph n ps.now) acc.2
change_of s (command.Adopt f keys) a told next free acc = Regraphed next.graph acc.4
change_of s (command.Forget r) a told next free acc = Regraphed (without_node s.graph r) acc.2
change_of s (command.Drop t n) a told next free acc = Departed (goes_with s.graph n) (without_branch s.graph n) acc.2
change_of s (command.IndexBy t ps f bs rs ks) a told next free acc = Born t acc.0 next.graph (may_index s t ps f bs rs ks free).active acc.1.index.birth acc.4
change_of s (command.Split t i at) a told next free acc = Parted t i acc.0 at next.graph free acc.1 acc.4
change_of s (command.Merge t i) a told next free acc = Departed (λ q. same_node q (next_interval s.graph i)) (merge s.graph i) acc.2
change_of s (command.Group n) a told next free acc = absurd acc
change_of s (command.Held t n) a told next free acc = absurd acc
change_of s (command.Effective t n) a told next free acc = absurd acc
