-- What rests in a part for the next transaction of a slot: where it may, and from when on it counts.
use Rattle.std.specs.Prelude.{◌≡◌, ◌≢◌, ◌⊎◌, ◌≤◌, ◌<◌, ℕ, Bool, true, false, nat_le, min, is_none, is_some, List, []}
use Rattle.gl_modes.specs.declared.mode.Mode.TheVariants.{NL}
use Rattle.gl_modes.specs.declared.node.NodeId.{NodeId}
use Rattle.gl_waits.specs.declared.victims.Victims.{Victims}
use Rattle.gl_waits.specs.Victims.{IsCandidate}
use Rattle.gl_model.specs.Lawful.{IsLawful}
use Rattle.gl_model.specs.State.{IsVictim, State, age_of, since_of, waits_for}
use Rattle.gl_model.specs.Tellings.{Told}
use Rattle.gl_model.specs.declared.txn.TxnId.{TxnId}
use Rattle.gl_steps.specs.declared.command.Answer.TheVariants as answer
use Rattle.gl_steps.specs.declared.command.Command.{Command}
use Rattle.gl_steps.specs.declared.command.Command.TheVariants as command
use Rattle.gl_steps.specs.Step.{Step}
use Rattle.gl_parts.specs.Whole.{Each, Part, held_at, is_in}
use Rattle.gl_parts.specs.Leading.{Follower, Managers, WorkAsOne, covers}
use Rattle.gl_parts.specs.Actions.{Acts, KeepsName, Takes}
use Rattle.gl_parts.specs.declared.passing.Mark.{Mark}
use Rattle.gl_parts.specs.Promises.{ListsMarks}

-- a transaction that ends in a part may leave something there that rests: it commits, some of its locks are to be kept, and the part has no mark
pub record MayRest (is_commit : Bool) (most : ℕ) (marks : List Mark) : Type 0 where
  pub commits : is_commit ≡ true
  pub keeps : most ≢ 0
  pub unmarked : marks ≡ []

-- a transaction takes up what rests if its work began with it: its `since` is not below its age
abbrev pub takes_up : ℕ → ℕ → Bool
takes_up age since = nat_le age since

-- slot t has nothing on the nodes for which the part is marked
abbrev pub HasNoneMarked : Part → Follower → ℕ → Type 0
HasNoneMarked main f t = (n : NodeId) → is_in n main ≡ true → f.marked n ≡ true → held_at f.part t n ≡ NL

-- a slot without a transaction in the main manager has nothing on the nodes for which a part is marked
abbrev pub AbsentHaveNoneMarked : Type 0
AbsentHaveNoneMarked = (w : Managers) (t : ℕ) → WorkAsOne w → is_none (w.main.state.txns t) ≡ true → Each (λ f. HasNoneMarked w.main f t) w.followers

-- what it has in a part is not copied: the part is marked for the node only after that was released
abbrev pub AbsentAreUncovered : Type 0
AbsentAreUncovered =
    (main p : Part) (t : ℕ) (n : NodeId) → IsLawful main.state → is_none (main.state.txns t) ≡ true → held_at p t n ≢ NL → covers main p t n ≡ false

-- a transaction may end in the main manager, whatever its slot has in parts on nodes for which they are not marked
abbrev pub EndsBesideRest : Type 0
EndsBesideRest =
    (w : Managers) (t : TxnId) (c : Command) (main' : Part) → WorkAsOne w → (c ≡ command.Commit t) ⊎ (c ≡ command.Abort t) → Takes w.main c main'
    → main'.state.graph ≡ w.main.state.graph → ((n : NodeId) → KeepsName n w.main main') → Each (λ f. HasNoneMarked w.main f t.slot) w.followers
    → Acts w (record w { main = main' })

-- if a transaction may leave something in a part, no slot has anything there on a node for which the part is marked
abbrev pub UnmarkedMayRest : Type 0
UnmarkedMayRest =
    (main : Part) (f : Follower) (is_commit : Bool) (most : ℕ) (marks : List Mark) (t : ℕ) → ListsMarks main f marks → MayRest is_commit most marks
    → HasNoneMarked main f t

-- from when on a transaction counts that rests in a slot of a part, and was given the slot's next age elsewhere, a sentence a line:
-- its `since` is that age, or its age in the part if that is smaller
-- so it is at most the `since` of each later transaction of the slot that takes it up
-- it is above the `since` of each transaction that was in the part, if that is below the given age
-- so none of these is the victim of a deadlock in which the one that rests, or was taken up, is a candidate
pub record CountsFrom (s : State) (slot next : ℕ) (s' : State) : Type 0 where
  pub since : since_of s' slot ≡ min next (age_of s' slot)
  pub taken : (age since : ℕ) → next ≤ age → takes_up age since ≡ true → since_of s' slot ≤ since
  pub above : (u : ℕ) → is_some (s.txns u) ≡ true → since_of s u < next → since_of s u < since_of s' slot
  pub spared : (c : Victims) (later : State) (t u : ℕ) → is_some (s.txns u) ≡ true → since_of s u < next → since_of later u ≡ since_of s u
      → since_of later slot ≡ since_of s' slot → IsCandidate c (waits_for later) t slot → IsVictim c later t u
      → ⊥

-- so counts the transaction that begins in the slot of one that ends, if it is given that age
abbrev pub RestCountsFrom : Type 0
RestCountsFrom =
    (s : State) (t : TxnId) (next : ℕ) (u : TxnId) (told : Told) (s' : State) → IsLawful s → Step s (command.Renew t next) (answer.Begun u) told s'
    → CountsFrom s t.slot next s'
