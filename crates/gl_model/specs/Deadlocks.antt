-- What is recorded of deadlocks: who waited for whom on the cycle that a victim ended.
use Rattle.std.specs.Prelude.{◌≡◌, ◌<◌, ◌==◌, ◌↔◌, ℕ, zero, suc, Bool, IsTrue, true, false, [], Some}
use Rattle.std.specs.List.{All, AllPairs, list_any}
use Rattle.gl_modes.specs.declared.mode.Mode.{Mode}
use Rattle.gl_modes.specs.declared.node.NodeId.{NodeId}
use Rattle.gl_slots.specs.Slots.{has_slot}
use Rattle.gl_waits.specs.declared.victims.Victims.{Victims}
use Rattle.gl_waits.specs.Waits.{IsOnCycleOf, IsOnNoCycle}
use Rattle.gl_model.specs.declared.deadlock.Deadlock.{Deadlock}
use Rattle.gl_model.specs.declared.deadlock.Stuck.{Stuck}
use Rattle.gl_model.specs.declared.answers.Detect.{Detect}
use Rattle.gl_model.specs.declared.answers.Detect.TheVariants.{AtBlock, ByWatcher}
use Rattle.gl_model.specs.declared.txn.Status.TheVariants.{Waiting}
use Rattle.gl_model.specs.declared.txn.TxnId.{TxnId}
use Rattle.gl_model.specs.Calls.{enqueued, enters_at, wanted}
use Rattle.gl_model.specs.State.{condemned, State, age_of, status_of, IsVictim, Settled, waits_for}

-- before the first victim: no victim, and nobody on a cycle
abbrev pub no_deadlock : Deadlock
no_deadlock = record { victim = record { slot = 0; age = 0 }; cycle = record { items = [] } }

-- the name of the transaction in a slot
abbrev pub name_at : State → ℕ → TxnId
name_at s u = record { slot = u; age = age_of s u }

-- the row of a transaction on a cycle with t: its name, what it waits for, and for whom of those on a cycle with t
pub record IsStuck (s : State) (t : ℕ) (r : Stuck) : Type 0 where
  pub on_cycle : IsOnCycleOf (waits_for s) t r.txn.slot
  pub name : r.txn ≡ name_at s r.txn.slot
  pub waits : status_of s r.txn.slot ≡ Some (Waiting r.node r.wanted)
  pub waits_for : (u : ℕ) → IsTrue (has_slot r.waits_for u) ↔ (IsOnCycleOf (waits_for s) t u × (waits_for s r.txn.slot u ≡ true))

-- a slot has a row
abbrev pub has_row : Deadlock → ℕ → Bool
has_row d u = list_any (λ (r : Stuck). r.txn.slot == u) d.cycle.items

-- the deadlock of t, with victim v: each transaction on a cycle with t has one row, by rising slot, and no other has one
pub record IsDeadlock (s : State) (t v : ℕ) (d : Deadlock) : Type 0 where
  pub victim : d.victim ≡ name_at s v
  pub rows : All (IsStuck s t) d.cycle.items
  pub whole : (u : ℕ) → IsOnCycleOf (waits_for s) t u → has_row d u ≡ true
  pub rising : AllPairs (λ (r q : Stuck). r.txn.slot < q.txn.slot) d.cycle.items

-- t is settled in this many turns: each records, in place of the last, the deadlock as it was before its victim was condemned
abbrev pub SettlesKeepingWithin : Victims → ℕ → State → ℕ → Deadlock → State → Deadlock → Type 0
SettlesKeepingWithin c zero s t d s' d' = IsOnNoCycle (waits_for s) t × (s' ≡ s) × (d' ≡ d)
SettlesKeepingWithin c (suc k) s t d s' d' =
    (v : ℕ) × (e : Deadlock) × IsVictim c s t v × IsDeadlock s t v e × SettlesKeepingWithin c k (condemned s v) t e s' d'

-- t is settled in as many turns as are needed: the last deadlock is recorded; if nobody was condemned, the recorded one stays
abbrev pub SettlesKeeping : Victims → State → ℕ → Deadlock → State → Deadlock → Type 0
SettlesKeeping c s t d s' d' = (k : ℕ) × SettlesKeepingWithin c k s t d s' d'

-- what a lock that waits records: at block, the last deadlock of its settled requester; by watcher, the recorded one stays
abbrev pub WaitSettlesKeeping : Detect → Victims → State → ℕ → Deadlock → State → Deadlock → Type 0
WaitSettlesKeeping AtBlock c s t d s' d' = SettlesKeeping c s t d s' d'
WaitSettlesKeeping ByWatcher c s t d s' d' = d' ≡ d

-- what a lock records: if it is granted at once the recorded one stays, else what its wait records
pub record LocksKeeping (s : State) (t : ℕ) (n : NodeId) (m : Mode) (d : Deadlock) (s' : State) (d' : Deadlock) : Type 0 where
  pub at_once : enters_at s t n m ≡ true → d' ≡ d
  pub waits : enters_at s t n m ≡ false → WaitSettlesKeeping s.detect s.victims (enqueued s t n (wanted s t n m)) t d s' d'

-- to settle and record is to settle
abbrev pub KeepingSettles : Type 0
KeepingSettles = (c : Victims) (s : State) (t : ℕ) (d : Deadlock) (s' : State) (d' : Deadlock) → SettlesKeeping c s t d s' d' → Settled c s t s'

-- a deadlock has a row of its victim
abbrev pub VictimHasRow : Type 0
VictimHasRow = (c : Victims) (s : State) (t v : ℕ) (d : Deadlock) → IsVictim c s t v → IsDeadlock s t v d → has_row d v ≡ true

-- each row is of a transaction that waits for one that has a row
abbrev pub RowsLeadOn : Type 0
RowsLeadOn = (s : State) (t v : ℕ) (d : Deadlock) → IsDeadlock s t v d
    → All (λ (r : Stuck). (u : ℕ) × (has_slot r.waits_for u ≡ true) × (has_row d u ≡ true)) d.cycle.items
