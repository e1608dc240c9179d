-- For whom a transaction waits, and when its wait ends.
use Rattle.std.specs.Prelude.{◌≡◌, ◌⊎◌, ℕ, true, false, List, Some, is_some}
use Rattle.gl_modes.specs.declared.node.NodeId.{NodeId}
use Rattle.gl_model.specs.declared.txn.TxnId.{TxnId}
use Rattle.gl_model.specs.declared.answers.Notice.TheVariants as notice
use Rattle.gl_model.specs.Lawful.{IsLawful}
use Rattle.gl_model.specs.State.{State, age_of, lives, waits_for, status_of}
use Rattle.gl_model.specs.Tellings.{Told}
use Rattle.gl_steps.specs.declared.command.Answer.{Answer}
use Rattle.gl_steps.specs.declared.command.Command.{Command}
use Rattle.gl_steps.specs.Promises.{SomeStep, ends_wait_of, waits_on, is_told_that, moves_node}
use Rattle.gl_steps.specs.Step.{Run}
use Rattle.gl_fairness.specs.Waiting.{SameTxn, WaitsThrough, stands_before}
use Rattle.gl_modes.specs.declared.mode.Mode.{Mode}
use Rattle.gl_model.specs.declared.txn.Status.TheVariants.{Condemned, Waiting}
use Rattle.gl_graph.specs.Graph.{is_live}

-- t waits for u, which lives and is before it on n
pub record IsWaitedFor (s : State) (t : TxnId) (n : NodeId) (u : ℕ) : Type 0 where
  pub waits : waits_for s t.slot u ≡ true
  pub lives : is_some (s.txns u) ≡ true
  pub before : stands_before s t n u ≡ true

-- each waiter waits for a transaction
abbrev pub WaitsForSomebody : Type 0
WaitsForSomebody = (s : State) (t : TxnId) (n : NodeId) → IsLawful s → waits_on s t n ≡ true → (u : ℕ) × IsWaitedFor s t n u

-- and, at the end of a run along which it waits, for one that was before it at the beginning and is the same transaction
abbrev pub WaitsForOneBefore : Type 0
WaitsForOneBefore =
    (s s' : State) (cs : List Command) (rs : List (Answer × Told)) (t : TxnId) (n : NodeId) → IsLawful s → WaitsThrough t n s cs rs s' → (u : ℕ)
    × IsWaitedFor s' t n u × (stands_before s t n u ≡ true) × SameTxn s s' u

-- the transaction that has slot u in s does not live in s'
abbrev pub HasEnded : State → State → ℕ → Type 0
HasEnded s s' u = lives s' (record { slot = u; age = age_of s u }) ≡ false

-- t's wait for m on n ended by a grant: it is told so, and holds n in m
pub record EndsGranted (t : TxnId) (n : NodeId) (m : Mode) (told : Told) (s' : State) : Type 0 where
  pub told_so : is_told_that t (notice.Granted n m) told ≡ true
  pub held : s'.held t.slot n ≡ m

-- it ended since t became a victim: t is told so, and is condemned
pub record EndsCondemned (t : TxnId) (told : Told) (s' : State) : Type 0 where
  pub told_so : is_told_that t notice.Victim told ≡ true
  pub condemned : status_of s' t.slot ≡ Some Condemned

-- it ended since the command moved n, or gave it another key: t is told so
pub record EndsMoved (t : TxnId) (n : NodeId) (c : Command) (told : Told) : Type 0 where
  pub told_so : is_told_that t notice.Moved told ≡ true
  pub moved : moves_node n c ≡ true

-- it ended since n was removed: t is told so, and n lived before and lives no more
pub record EndsGone (s : State) (t : TxnId) (n : NodeId) (told : Told) (s' : State) : Type 0 where
  pub told_so : is_told_that t notice.Gone told ≡ true
  pub lived : is_live s.graph n ≡ true
  pub gone : is_live s'.graph n ≡ false

-- it ended in one of these ways, or the command cancelled or aborted t by name
abbrev pub EndsSomehow : State → TxnId → NodeId → Mode → Command → Told → State → Type 0
EndsSomehow s t n m c told s' =
    EndsGranted t n m told s' ⊎ EndsCondemned t told s' ⊎ EndsMoved t n c told ⊎ EndsGone s t n told s' ⊎ (ends_wait_of t c ≡ true)

-- a step ends t's wait on n: t waits there before it and not after it
pub record EndsWait (t : TxnId) (n : NodeId) (s : State) (c : Command) (r : Answer × Told) (s' : State) : Type 0 where
  pub wanted : Mode
  pub waited : status_of s t.slot ≡ Some (Waiting n wanted)
  pub over : waits_on s' t n ≡ false
  pub how : EndsSomehow s t n wanted c r.1 s'

-- over a run in which all that were before t at its beginning have ended, t's wait has ended: by a grant, unless t is condemned, cancelled or
-- aborted, or n is moved or removed
abbrev pub WaitsEnd : Type 0
WaitsEnd =
    (s s' : State) (cs : List Command) (rs : List (Answer × Told)) (t : TxnId) (n : NodeId) → IsLawful s → Run s cs rs s' → waits_on s t n ≡ true
    → ((u : ℕ) → stands_before s t n u ≡ true → HasEnded s s' u)
    → SomeStep (EndsWait t n) s cs rs s'
