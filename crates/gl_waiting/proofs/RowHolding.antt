-- What a tried row holds: its node, in the mode that the answer says. For Delivery.try_row.
use Rattle.std.specs.Prelude.{◌≡◌, ℕ, ◌&&◌, ◌==◌, true, false, [], Option, Some, None, Result, Ok, Err, if◌then◌else◌}
use Rattle.std.proofs.Common.{refl, sym, ap, subst, ◌∙◌, inl, inr}
use mathlib.Core.Bool.{true≢false}
use Rattle.gl_modes.proofs.ModeLemmas.{at_least-refl, at_least-transitive, supremum-above_right}
use Rattle.gl_modes.proofs.NodeLemmas.{same_node-refl}
use Rattle.gl_modes.proofs.Words.{number_same}
use Rattle.gl_modes.specs.declared.mode.Mode.{Mode}
use Rattle.gl_modes.specs.declared.node.NodeId.{NodeId}
use Rattle.gl_modes.specs.declared.refusal.Refusal.{Refusal}
use Rattle.gl_modes.specs.declared.refusal.Refusal.TheVariants as no
use Rattle.gl_modes.specs.Modes.{is_at_least}
use Rattle.gl_modes.specs.Nodes.{same_node}
use Rattle.gl_model.specs.declared.answers.Locked.{Locked}
use Rattle.gl_model.specs.declared.answers.Locked.TheVariants as locked
use Rattle.gl_model.specs.declared.txn.Status.{Status}
use Rattle.gl_model.specs.declared.txn.Status.TheVariants.{Active, Condemned, Waiting}
use Rattle.gl_model.specs.declared.txn.TxnId.{TxnId}
use Rattle.gl_model.specs.Calls.{enters_at, wanted}
use Rattle.gl_model.specs.State.{State, status_of}
use Rattle.gl_model.specs.Tellings.{Told}
use Rattle.gl_steps.specs.declared.command.Answer.TheVariants as answer
use Rattle.gl_steps.specs.declared.command.Command.TheVariants as command
use Rattle.gl_steps.specs.Step.{Goes, Step, answer_of_lock, lock_answer}
use Rattle.gl_steps.specs.Tests.{refusal_of}
use Rattle.gl_catalog.specs.Adopting.{AdoptsLocked}
use Rattle.gl_catalog.specs.Manager.{ManagerView, state_of}
use Rattle.gl_rows.specs.declared.answer.RowAnswer.{RowAnswer}
use Rattle.gl_rows.specs.declared.answer.RowLocked.{RowLocked}
use Rattle.gl_rows.specs.declared.answer.RowRefusal.{RowRefusal}
use Rattle.gl_rows.specs.declared.answer.RowRefusal.TheVariants as row_no
use Rattle.gl_rows.specs.declared.call.RowCall.TheVariants as call
use Rattle.gl_rows.specs.declared.row.Row.{Row}
use Rattle.gl_rows.specs.Answers.{done_said}
use Rattle.gl_rows.specs.Applying.{AppliesCall, answer_in}
use Rattle.gl_rows.specs.Locking.{LocksBy, LocksRow, Wish, first_locked}
use Rattle.gl_rows.specs.Rows.{name_of}
use Rattle.gl_waiting.specs.Delivering.{DeliveryView, registry_in}
use Rattle.gl_waiting.specs.RowLocks.{LocksRowAs}
use Rattle.gl_waiting.specs.RowTries.{HoldsAtLeast, HoldsTried, IsHeldIn, is_released, lock_of_tried, refused_at, row_refused}
use Rattle.gl_waiting.specs.declared.tries.RowTried.{RowTried}
use Rattle.gl_waiting.specs.declared.tries.RowTried.TheVariants as tried
use Rattle.gl_waiting.proofs.RowCalls.{comes_to_nothing, nothing_done}
use Rattle.gl_waiting.proofs.RowLocking.{locks_row}

-- A lock that is granted.

granted_as : (h m : Mode) (o : Option Status) → answer.Granted m ≡ lock_answer h o → h ≡ m
granted_as h m None is = cc is
granted_as h m (Some Active) is = cc is
granted_as h m (Some Condemned) is = absurd (cc is)
granted_as h m (Some (Waiting n k)) is = absurd (cc is)

module _ (s : State) (t : TxnId) (n : NodeId) (k m : Mode) (told : Told) (s' : State) where
  -- its node is held in the mode of the answer
  granted_holds : Step s (command.Lock t n k) (answer.Granted m) told s' → s'.held t.slot n ≡ m
  granted_holds (inr memory) = absurd (cc (memory.1.answer_is))
  granted_holds (inl gone) = by (refusal_of s (command.Lock t n k)) gone
    where
      by : (o : Option Refusal) → Goes s (command.Lock t n k) o (answer.Granted m) told s' → s'.held t.slot n ≡ m
      by (Some q) un = absurd (cc (un.answer_is))
      by None (next, accepts, counted) =
          ap (λ (x : State). x.held t.slot n) counted ∙ granted_as (next.held t.slot n) m (status_of next t.slot) accepts.1

  -- and that is the mode of the request or a greater one, if it was granted at once
  granted_least : enters_at s t.slot n k ≡ true → Step s (command.Lock t n k) (answer.Granted m) told s' → is_at_least m k ≡ true
  granted_least enters (inr memory) = absurd (cc (memory.1.answer_is))
  granted_least enters (inl gone) = by (refusal_of s (command.Lock t n k)) gone
    where
      there : ((t.slot == t.slot) && same_node n n) ≡ true
      there = ap (λ b. b && same_node n n) (number_same t.slot t.slot refl) ∙ same_node-refl n

      by : (o : Option Refusal) → Goes s (command.Lock t n k) o (answer.Granted m) told s' → is_at_least m k ≡ true
      by (Some q) un = absurd (cc (un.answer_is))
      by None (next, accepts, counted) =
          let is : next.held t.slot n ≡ wanted s t.slot n k =
          ap (λ (x : State). x.held t.slot n) (accepts.0.at_once enters)
          ∙ ap (λ b. if b then wanted s t.slot n k else s.held t.slot n) there in
          ap (λ x. is_at_least x k) (sym (granted_as (next.held t.slot n) m (status_of next t.slot) accepts.1) ∙ is)
          ∙ supremum-above_right (s.held t.slot n) k

-- a node that is forgotten changes no lock
forgotten_holds : (s s' : State) (n q : NodeId) (u : ℕ) (told : Told) → Step s (command.Forget n) answer.Done told s' → s'.held u q ≡ s.held u q
forgotten_holds s s' n q u told (inr memory) = absurd (cc (memory.1.answer_is))
forgotten_holds s s' n q u told (inl gone) = by (refusal_of s (command.Forget n)) gone
  where
    by : (o : Option Refusal) → Goes s (command.Forget n) o answer.Done told s' → s'.held u q ≡ s.held u q
    by (Some r) un = absurd (cc (un.answer_is))
    by None (next, accepts, counted) = ap (λ (x : State). x.held u q) counted ∙ ap (λ (x : State). x.held u q) accepts.2

-- a record that was adopted and locked
adopted_holds : (m m' : ManagerView) (w : Wish) (n : NodeId) → AdoptsLocked m w.txn w.row.file w.keys w.mode n m'
    → HoldsAtLeast (state_of m') w.txn n w.mode w.mode
adopted_holds m m' w n h = (granted_holds h.mid w.txn n w.mode w.mode [] (state_of m') h.locks, at_least-refl w.mode)

-- A row's lock that was granted at once.
module _ (d d' : DeliveryView) (w : Wish) (told : Told)
    (enters : (n : NodeId) → name_of d.rows w.row ≡ Some n → enters_at (state_of d.manager) w.txn.slot n w.mode ≡ true) where
  abbrev Held : NodeId → Mode → Type 0
  Held n k = HoldsAtLeast (state_of d'.manager) w.txn n k w.mode

  row_holds : (x : RowLocked) (m : Mode) → x.locked ≡ locked.Granted m → LocksRowAs d w (Ok x) told d'
      → HoldsAtLeast (state_of d'.manager) w.txn x.node m w.mode
  row_holds x m granted h = of (locks_row d d' w (Ok x) told h)
    where
      -- in the mode of the request
      as_new : x ≡ first_locked x.node w.mode → Held x.node w.mode → Held x.node m
      as_new is held =
          let same : w.mode ≡ m = cc (granted, ap (λ (y : RowLocked). y.locked) is) in subst (λ k. Held x.node k) same held

      by : (o : Option NodeId) → name_of d.rows w.row ≡ o → LocksBy o d.manager d.rows w (Ok x) told d'.manager d'.rows → Held x.node m
      by (Some n) e (inl (kept, does)) =
          let step = subst (λ (l : Locked). Step (state_of d.manager) (command.Lock w.txn n w.mode) (answer_of_lock l) told (state_of d'.manager)) granted
          does.0.step in
          subst (λ q. Held q m) (sym does.1) (
            granted_holds (state_of d.manager) w.txn n w.mode m told (state_of d'.manager) step,
            granted_least (state_of d.manager) w.txn n w.mode m told (state_of d'.manager) (enters n e) step,
          )
      by (Some n) e (inr (stale, new)) =
          let adopted = adopted_holds d.manager new.0.mid w x.node new.0.adopts in
          as_new new.1.answer_is (
            forgotten_holds (state_of new.0.mid) (state_of d'.manager) n x.node w.txn.slot [] new.0.forgets.step ∙ adopted.0,
            adopted.1,
          )
      by None e (inl (none, err)) = absurd (cc err.answer_is)
      by None e (inr (has, new)) = as_new new.1.answer_is (adopted_holds d.manager d'.manager w x.node new.0)

      of : LocksRow d.manager d.rows w (Ok x) told d'.manager d'.rows → Held x.node m
      of (inl err) = absurd (cc err.answer_is)
      of (inr h) = by (name_of d.rows w.row) refl h

  tried_by_lock : (came : RowTried) → LocksRowAs d w (lock_of_tried came) told d' → HoldsTried w.txn w.mode came (state_of d'.manager)
  tried_by_lock (tried.Granted n m) h = row_holds _ m refl h
  tried_by_lock (tried.OtherKeys n m) h = row_holds _ m refl h
  tried_by_lock (tried.WouldBlock n) h = tt
  tried_by_lock (tried.Refused r) h = tt
  tried_by_lock tried.NotRows h = tt

  -- what a tried row came to by its lock
  pub lock_holds : (result : Result RowLocked RowRefusal) (came : RowTried) → lock_of_tried came ≡ result → LocksRowAs d w result told d'
      → HoldsTried w.txn w.mode came (state_of d'.manager)
  lock_holds result came is h =
      tried_by_lock came (subst (λ (r : Result RowLocked RowRefusal). LocksRowAs d w r told d') (sym is) h)

-- A row that was refused.

pub refused_holds : (t : TxnId) (k : Mode) (r : RowRefusal) (s : State) → HoldsTried t k (row_refused r) s
refused_holds t k (row_no.Refused r) s = tt
refused_holds t k row_no.NotRows s = tt

pub refused_at_holds : (t : TxnId) (k : Mode) (n : NodeId) (r : Refusal) (s : State) → HoldsTried t k (refused_at n r) s
refused_at_holds t k n no.WouldBlock s = tt
refused_at_holds t k n r s = tt

-- a row that stays held
pub held_holds : (s s' : State) (t : TxnId) (n : NodeId) (m : Mode) → IsHeldIn s t n m → s'.held t.slot n ≡ s.held t.slot n → HoldsAtLeast s' t n m m
held_holds s s' t n m held same = (same ∙ held.0, at_least-refl m)

-- the same in a lesser mode
pub holds_least : (t : TxnId) (k m : Mode) (came : RowTried) (s : State) → is_at_least m k ≡ true → HoldsTried t m came s → HoldsTried t k came s
holds_least t k m (tried.Granted n g) s least h = (h.0, at_least-transitive g m k h.1 least)
holds_least t k m (tried.OtherKeys n g) s least h = (h.0, at_least-transitive g m k h.1 least)
holds_least t k m (tried.WouldBlock n) s least h = tt
holds_least t k m (tried.Refused r) s least h = tt
holds_least t k m tried.NotRows s least h = tt

-- a release that is refused changes nothing
unreleased : (a : RowAnswer) (r : Result (Unit {0}) RowRefusal) → a ≡ done_said r → is_released a ≡ false → comes_to_nothing (answer_in a) ≡ true
unreleased a (Ok u) is out = absurd (true≢false (sym (ap is_released is) ∙ out))
unreleased a (Err (row_no.Refused r)) is out = ap (λ (x : RowAnswer). comes_to_nothing (answer_in x)) is
unreleased a (Err row_no.NotRows) is out = ap (λ (x : RowAnswer). comes_to_nothing (answer_in x)) is

pub unreleased_same : (d d' : DeliveryView) (t : TxnId) (row : Row) (a : RowAnswer) (told : Told)
    → AppliesCall (registry_in d) (call.Unlock t row) a told (registry_in d') → is_released a ≡ false → d'.manager ≡ d.manager
unreleased_same d d' t row a told h out =
    (nothing_done d.manager d.rows a told d'.manager d'.rows (unreleased a h.result h.answered out) (call.Unlock t row) h).1
