-- Tries of rows: each lock of one is granted at once or refused, no transaction begins to wait, and what each call leaves. For Delivery.try_row.
use Rattle.gl_slots.specs.declared.slots.Slots.{Slots}
use Rattle.gl_slots.specs.Slots.{HasNoSlot}
use Rattle.std.specs.Prelude.{◌≡◌, ℕ, ◌&&◌, ◌||◌, ◌⊎◌, ◌+◌, ◌<◌, ◌≤◌, ◌==◌, not, Bool, true, false, List, [], drop, length, unwrap_or}
use Rattle.std.specs.Prelude.{Option, Some, None, Result, Ok, Err, if◌then◌else◌}
use Rattle.std.proofs.Common.{refl, sym, ap, subst, ◌∙◌, inl, inr, ⊎_elim, arith}
use mathlib.Core.Bool.{true≢false}
use Rattle.gl_modes.proofs.NodeLemmas.{same_node-equal, same_node-refl}
use Rattle.gl_modes.specs.Nodes.{same_node}
use Rattle.gl_modes.proofs.ModeLemmas.{at_least-refl, same_mode-equal, supremum-covers, supremum-not_NL}
use Rattle.gl_modes.specs.declared.mode.Mode.{Mode}
use Rattle.gl_modes.specs.declared.mode.Mode.TheVariants.{NL}
use Rattle.gl_modes.specs.declared.node.NodeId.{NodeId}
use Rattle.gl_modes.specs.declared.refusal.Refusal.{Refusal}
use Rattle.gl_modes.specs.declared.refusal.Refusal.TheVariants as no
use Rattle.gl_modes.specs.Modes.{are_compatible, same_mode, supremum}
use Rattle.gl_graph.proofs.Unrefused.{test_fails}
use Rattle.gl_header.specs.Header.{Waiter, enters, fits, front, holds, is_empty}
use Rattle.gl_header.proofs.Changed.{nobody-enters}
use Rattle.gl_header.proofs.Fits.{fits-from_all}
use Rattle.gl_model.specs.declared.answers.Locked.{Locked}
use Rattle.gl_model.specs.declared.answers.Locked.TheVariants as locked
use Rattle.gl_model.specs.declared.txn.Status.{Status}
use Rattle.gl_model.specs.declared.txn.Status.TheVariants.{Active, Condemned, Waiting}
use Rattle.gl_model.specs.declared.txn.TxnId.{TxnId}
use Rattle.gl_model.specs.Calls.{enters_at, is_idle, unlocked, wanted}
use Rattle.gl_model.specs.Lawful.{IsLawful}
use Rattle.gl_model.specs.State.{State, Txn, front_at, granted_at, is_wait, members, status_in, status_of, with_grant}
use Rattle.gl_model.specs.Tellings.{Told}
use Rattle.gl_model.proofs.law.Records.{idle-free}
use Rattle.gl_steps.specs.declared.command.Answer.{Answer}
use Rattle.gl_steps.specs.declared.command.Answer.TheVariants as answer
use Rattle.gl_steps.specs.declared.command.Command.{Command}
use Rattle.gl_steps.specs.declared.command.Command.TheVariants as command
use Rattle.gl_steps.specs.Step.{Goes, Step, answer_of_lock, lock_answer}
use Rattle.gl_steps.specs.Tests.{refusal_of, tests_of}
use Rattle.gl_steps.proofs.NotRefused.{active_is, txn_lives}
use Rattle.gl_steps.proofs.OneStep.{all_none}
use Rattle.gl_steps.proofs.StepsKeepLaw.{steps_keep_law}
use Rattle.gl_steps.proofs.WaitsBegin.{begins_waits}
use Rattle.gl_catalog.specs.Manager.{ManagerView, state_of}
use Rattle.gl_rows.specs.declared.answer.RowAnswer.{RowAnswer}
use Rattle.gl_rows.specs.declared.answer.RowAnswer.TheVariants as row_answer
use Rattle.gl_rows.specs.declared.answer.RowLocked.{RowLocked}
use Rattle.gl_rows.specs.declared.answer.RowRefusal.{RowRefusal}
use Rattle.gl_rows.specs.declared.answer.RowRefusal.TheVariants as row_no
use Rattle.gl_rows.specs.declared.call.RowCall.TheVariants as call
use Rattle.gl_rows.specs.declared.row.Row.{Row}
use Rattle.gl_rows.specs.Answers.{done_said, lock_said}
use Rattle.gl_rows.specs.Applying.{AppliesCall, CarriesOut, StepsAmid, answer_in, own_command}
use Rattle.gl_rows.specs.Locking.{LocksBy, LocksRow, Wish, first_locked}
use Rattle.gl_rows.specs.Releasing.{named_or_none, no_node}
use Rattle.gl_rows.specs.Rows.{RowsView, name_of}
use Rattle.gl_wakes.specs.Wakes.{HasEnded}
use Rattle.gl_rows.proofs.Upkeep.{upkeep_leaves}
use Rattle.gl_catalog.specs.Paths.{Ask}
use Rattle.gl_catalog.specs.Replies.{CallSteps, took}
use Rattle.gl_waiting.specs.Delivering.{Carries, DeliveryView, registry_in}
use Rattle.gl_waiting.specs.RowLocks.{LocksRowAs, row_lock}
use Rattle.gl_waiting.specs.RowTries.{BeginsNoWait, BlocksNobody, IsAtOnce, IsHeldIn, KeepsQueues, busy_node, is_released, row_refused, was_held}
use Rattle.gl_waiting.specs.declared.tries.RowTried.{RowTried}
use Rattle.gl_waiting.specs.declared.tries.RowTried.TheVariants as tried
use Rattle.gl_waiting.specs.Tries.{HasManager, try_of}
use Rattle.gl_waiting.proofs.Awaiting.{carries_counted, carries_ended, first_false, same_slot}
use Rattle.gl_waiting.proofs.RowCalls.{comes_to_nothing, nothing_done}
use Rattle.gl_waiting.proofs.RowLocking.{locks_row}
use Rattle.gl_waiting.proofs.TriedPaths.{Took, still_waits, took_active, took_held, took_is, took_only}

-- A lock that enters at once is answered by its grant.

unrefused : (x : Locked) (r : Refusal) → answer_of_lock x ≡ answer.Refused r → ⊥
unrefused (locked.Granted m) r is = cc
unrefused locked.Waiting r is = cc
unrefused locked.Victim r is = cc

grant_is : (x : Locked) (m : Mode) → answer_of_lock x ≡ answer.Granted m → (k : Mode) × (x ≡ locked.Granted k)
grant_is (locked.Granted k) m is = (k, refl)
grant_is locked.Waiting m is = absurd (cc is)
grant_is locked.Victim m is = absurd (cc is)

module _ (s : State) (t : TxnId) (n : NodeId) (k : Mode) (enters : enters_at s t.slot n k ≡ true) where
  granted_by : (x : Locked) (told : Told) (s' : State) → Step s (command.Lock t n k) (answer_of_lock x) told s' → (m : Mode) × (x ≡ locked.Granted m)
  granted_by x told s' (inr memory) = absurd (unrefused x no.NoMemory memory.1.answer_is)
  granted_by x told s' (inl gone) = by (refusal_of s (command.Lock t n k)) refl gone
    where
      by : (o : Option Refusal) → refusal_of s (command.Lock t n k) ≡ o → Goes s (command.Lock t n k) o (answer_of_lock x) told s'
          → (m : Mode) × (x ≡ locked.Granted m)
      by (Some q) e un = absurd (unrefused x q un.answer_is)
      by None e (next, accepts, counted) =
          let all = all_none (tests_of s (command.Lock t n k)) e in
          let active = active_is s t all.1.0 all.1.1.0 all.1.1.1.0 in
          let still : status_of next t.slot ≡ Some Active = ap (λ (y : State). status_of y t.slot) (accepts.0.at_once enters) ∙ active in
          grant_is x (next.held t.slot n) (accepts.1 ∙ ap (lock_answer (next.held t.slot n)) still)

module _ (s : State) (law : IsLawful s) (t : ℕ) (n : NodeId) where
  -- a lock of a node that nobody holds or waits for
  idle_enters : (k : Mode) → is_idle s n ≡ true → enters_at s t n k ≡ true
  idle_enters k idle =
      let free = idle-free s law n idle in
      let is : wanted s t n k ≡ k = ap (λ x. supremum x k) (free.0 t) in
      (λ i. enters s.most (λ u. free.0 u i) (free.1 i) t (is i)) ∙ nobody-enters s.most t k

  -- a lock in the mode in which its transaction holds the node
  held_enters : (m : Mode) → s.held t n ≡ m → same_mode m NL ≡ false → enters_at s t n m ≡ true
  held_enters m held lock =
      ap (enters s.most (members s n) (s.queue n) t) is ∙ ap (λ b. b && (holds (members s n) t || is_empty (s.queue n))) fit
      ∙ ap (λ b. not b || is_empty (s.queue n)) (ap (λ x. same_mode x NL) held ∙ lock)
    where
      is : wanted s t n m ≡ m
      is = ap (λ x. supremum x m) held ∙ same_mode-equal _ _ (supremum-covers m m ∙ at_least-refl m)

      fit : fits s.most (members s n) t m ≡ true
      fit = fits-from_all s.most (members s n) t m
          (λ u apart. subst (λ x. are_compatible x (s.held u n) ≡ true) held (law.compatible t u n (λ e. apart (sym e))))

-- A row's lock that waits for nobody.

module _ (d d' : DeliveryView) (w : Wish) (told : Told)
    (enters : (n : NodeId) → name_of d.rows w.row ≡ Some n → enters_at (state_of d.manager) w.txn.slot n w.mode ≡ true) where
  pub locked_at_once : (result : Result RowLocked RowRefusal) → LocksRowAs d w result told d' → IsAtOnce result
  locked_at_once (Err r) h = tt
  locked_at_once (Ok x) h = of (locks_row d d' w (Ok x) told h)
    where
      at_once : x ≡ first_locked x.node w.mode → (m : Mode) × (x.locked ≡ locked.Granted m)
      at_once is = (w.mode, ap (λ (y : RowLocked). y.locked) is)

      by : (o : Option NodeId) → name_of d.rows w.row ≡ o → LocksBy o d.manager d.rows w (Ok x) told d'.manager d'.rows
          → (m : Mode) × (x.locked ≡ locked.Granted m)
      by (Some n) e (inl (held, does)) =
          granted_by (state_of d.manager) w.txn n w.mode (enters n e) x.locked told (state_of d'.manager) does.0.step
      by (Some n) e (inr (stale, new)) = at_once new.1.answer_is
      by None e (inl (none, err)) = absurd (cc err.answer_is)
      by None e (inr (has, new)) = at_once new.1.answer_is

      of : LocksRow d.manager d.rows w (Ok x) told d'.manager d'.rows → (m : Mode) × (x.locked ≡ locked.Granted m)
      of (inl err) = absurd (cc err.answer_is)
      of (inr h) = by (name_of d.rows w.row) refl h

busy_none : (s : State) (o : Option NodeId) → busy_node s o ≡ None → (n : NodeId) → o ≡ Some n → is_idle s n ≡ true
busy_none s None e n is = absurd (cc is)
busy_none s (Some q) e n is = by (is_idle s q) refl e
  where
    by : (b : Bool) → is_idle s q ≡ b → (if b then None else Some q) ≡ None → is_idle s n ≡ true
    by true so e = let same : q ≡ n = cc is in subst (λ x. is_idle s x ≡ true) same so
    by false so e = absurd (cc e)

pub busy_when : (s : State) (o : Option NodeId) (n : NodeId) → Some n ≡ o → is_idle s n ≡ true → None ≡ busy_node s o
busy_when s o n is idle = sym (ap (λ b. if b then None else Some n) idle) ∙ ap (busy_node s) is

pub busy_unless : (s : State) (o : Option NodeId) (n : NodeId) → Some n ≡ o → is_idle s n ≡ false → Some n ≡ busy_node s o
busy_unless s o n is busy = sym (ap (λ b. if b then None else Some n) busy) ∙ ap (busy_node s) is

pub busy_some : (s : State) (o : Option NodeId) (n : NodeId) → busy_node s o ≡ Some n → o ≡ Some n
busy_some s None n e = e
busy_some s (Some q) n e = by (is_idle s q) e
  where
    by : (b : Bool) → (if b then None else Some q) ≡ Some n → Some q ≡ Some n
    by true e = absurd (cc e)
    by false e = e

-- the lock of a row whose node nobody holds or waits for
pub free_enters : (d : DeliveryView) (w : Wish) → IsLawful (state_of d.manager) → busy_node (state_of d.manager) (name_of d.rows w.row) ≡ None → (n : NodeId)
    → name_of d.rows w.row ≡ Some n → enters_at (state_of d.manager) w.txn.slot n w.mode ≡ true
free_enters d w law none n is =
    idle_enters (state_of d.manager) law w.txn.slot n w.mode (busy_none (state_of d.manager) (name_of d.rows w.row) none n is)

pub free_at_once : (d d' : DeliveryView) (w : Wish) (told : Told) → IsLawful (state_of d.manager)
    → busy_node (state_of d.manager) (name_of d.rows w.row) ≡ None → (result : Result RowLocked RowRefusal) → LocksRowAs d w result told d'
    → IsAtOnce result
free_at_once d d' w told law none = locked_at_once d d' w told (free_enters d w law none)

-- the lock of a row whose node its transaction holds in that mode
pub held_enters_row : (d : DeliveryView) (w : Wish) → IsLawful (state_of d.manager) → (n : NodeId) → name_of d.rows w.row ≡ Some n
    → IsHeldIn (state_of d.manager) w.txn n w.mode → (q : NodeId) → name_of d.rows w.row ≡ Some q
    → enters_at (state_of d.manager) w.txn.slot q w.mode ≡ true
held_enters_row d w law n named held q is =
    let same : n ≡ q = cc (named, is) in
    subst (λ x. enters_at (state_of d.manager) w.txn.slot x w.mode ≡ true) same
    (held_enters (state_of d.manager) law w.txn.slot n w.mode held.0 held.1)

pub held_at_once : (d d' : DeliveryView) (w : Wish) (told : Told) → IsLawful (state_of d.manager) → (n : NodeId) → name_of d.rows w.row ≡ Some n
    → IsHeldIn (state_of d.manager) w.txn n w.mode → (result : Result RowLocked RowRefusal) → LocksRowAs d w result told d' → IsAtOnce result
held_at_once d d' w told law n named held = locked_at_once d d' w told (held_enters_row d w law n named held)

-- No transaction begins to wait.

pub no_wait_then : (s mid s' : State) → BeginsNoWait s mid → BeginsNoWait mid s' → BeginsNoWait s s'
no_wait_then s mid s' one other u idle = other u (one u idle)

pub no_wait_txns : (s s' : State) → s'.txns ≡ s.txns → BeginsNoWait s s'
no_wait_txns s s' same u idle = ap (λ (x : ℕ → Option Txn). is_wait (status_in (x u))) same ∙ idle

pub no_wait_step : (s s' : State) (c : Command) (a : Answer) (told : Told) → (a ≡ answer.Waiting → ⊥) → Step s c a told s' → BeginsNoWait s s'
no_wait_step s s' c a told at_once step u idle = by (status_of s' u) refl
  where
    by : (o : Option Status) → status_of s' u ≡ o → is_wait (status_of s' u) ≡ false
    by None e = ap is_wait e
    by (Some Active) e = ap is_wait e
    by (Some Condemned) e = ap is_wait e
    by (Some (Waiting n m)) e =
        ⊎_elim (λ before. absurd (true≢false (sym (ap is_wait before) ∙ idle))) (λ is. absurd (at_once is)) (begins_waits s s' c a told u n m step e)

no_wait_amid : (m m' : ManagerView) (c : Command) (a : Answer) (told : Told) → (a ≡ answer.Waiting → ⊥) → StepsAmid m c a told m'
    → BeginsNoWait (state_of m) (state_of m')
no_wait_amid m m' c a told at_once h =
    let first = upkeep_leaves (state_of m) h.ahead h.before in
    let last = upkeep_leaves h.behind (state_of m') h.after in
    no_wait_then (state_of m) h.ahead (state_of m') (no_wait_txns (state_of m) h.ahead (ap (λ (x : State). x.txns) first.is))
    (no_wait_then h.ahead h.behind (state_of m') (no_wait_step h.ahead h.behind c a told at_once h.step)
    (no_wait_txns h.behind (state_of m') (ap (λ (x : State). x.txns) last.is)))

pub no_wait_carried : (m m' : ManagerView) (c : Command) (o : Option Answer) (told : Told) → (o ≡ Some answer.Waiting → ⊥) → CarriesOut m c o told m'
    → BeginsNoWait (state_of m) (state_of m')
no_wait_carried m m' c None told at_once h = no_wait_txns (state_of m) (state_of m') (ap (λ (x : ManagerView). (state_of x).txns) h.1)
no_wait_carried m m' c (Some a) told at_once (inl amid) =
    no_wait_amid m m' c a told (λ is. at_once (ap (λ (x : Answer). Some x) is)) amid
no_wait_carried m m' c (Some a) told at_once (inr err) = no_wait_txns (state_of m) (state_of m') (ap (λ (x : ManagerView). (state_of x).txns) err.1.1)

not_waiting : (result : Result RowLocked RowRefusal) → IsAtOnce result → answer_in (lock_said result) ≡ Some answer.Waiting → ⊥
not_waiting (Ok x) (m, is) e = cc (e, ap (λ (y : Locked). answer_of_lock y) is)
not_waiting (Err (row_no.Refused r)) h e = cc
not_waiting (Err row_no.NotRows) h e = cc

pub no_wait_locked : (d d' : DeliveryView) (w : Wish) (result : Result RowLocked RowRefusal) (told : Told) → IsAtOnce result → LocksRowAs d w result told d'
    → BeginsNoWait (state_of d.manager) (state_of d'.manager)
no_wait_locked d d' w result told at_once h = no_wait_carried d.manager d'.manager _ (answer_in (lock_said result)) told (not_waiting result at_once) h.own

-- A lock that is refused changes nothing.

refused_nothing : (r : RowRefusal) → comes_to_nothing (answer_in (lock_said (Err r))) ≡ true
refused_nothing (row_no.Refused r) = refl
refused_nothing row_no.NotRows = refl

pub refused_same : (d d' : DeliveryView) (w : Wish) (r : RowRefusal) (told : Told) → LocksRowAs d w (Err r) told d'
    → (told ≡ []) × (d'.manager ≡ d.manager) × (d'.rows ≡ d.rows)
refused_same d d' w r told h =
    nothing_done d.manager d.rows (lock_said (Err r)) told d'.manager d'.rows (refused_nothing r) (row_lock w) h.applies

-- The lock by a try of the row's node.

pub tried_holds : (s s' : State) (t : TxnId) (n : NodeId) (k m : Mode) → Step s (try_of t (n, k)) (answer.Granted m) [] s' → IsHeldIn s' t n m
tried_holds s s' t n k m step =
    let it = took_is s t (n, k) m [] s' step in
    let all = all_none (tests_of s (try_of t (n, k))) it.passed in (
      took_held s t (n, k) m s' it,
      ap (λ x. same_mode x NL) it.mode
          ∙ supremum-not_NL (s.held t.slot n) k (first_false (same_mode k NL) _ (test_fails _ no.BadMode all.1.1.1.1.1.0)),
    )

-- the rows after a try of a node
pub rows_after : (d d' : DeliveryView) → HasManager d d'.manager d' → d'.rows ≡ d.rows
rows_after d d' has = ap (λ (x : DeliveryView). x.rows) has

pub no_wait_tried : (s s' : State) (t : TxnId) (ask : Ask) (result : Result Mode Refusal) → CallSteps s (try_of t ask) took result s' → BeginsNoWait s s'
no_wait_tried s s' t ask (Ok m) step = no_wait_step s s' (try_of t ask) _ [] (λ is. cc is) step
no_wait_tried s s' t ask (Err r) step = no_wait_step s s' (try_of t ask) _ [] (λ is. cc is) step

unlocked_at_once : (a : RowAnswer) (r : Result (Unit {0}) RowRefusal) → a ≡ done_said r → answer_in a ≡ Some answer.Waiting → ⊥
unlocked_at_once a (Ok u) is e = cc (sym (ap answer_in is) ∙ e)
unlocked_at_once a (Err (row_no.Refused r)) is e = cc (sym (ap answer_in is) ∙ e)
unlocked_at_once a (Err row_no.NotRows) is e = cc (sym (ap answer_in is) ∙ e)

pub no_wait_unlocked : (d d' : DeliveryView) (t : TxnId) (row : Row) (a : RowAnswer) (told : Told)
    → AppliesCall (registry_in d) (call.Unlock t row) a told (registry_in d')
    → CarriesOut d.manager (own_command d.rows (call.Unlock t row)) (answer_in a) told d'.manager → BeginsNoWait (state_of d.manager) (state_of d'.manager)
no_wait_unlocked d d' t row a told applies own =
    no_wait_carried d.manager d'.manager (own_command d.rows (call.Unlock t row)) (answer_in a) told
    (unlocked_at_once a applies.result applies.answered) own

-- No queue changes.

front_none : (s : State) (n q : NodeId) → front_at s n ≡ [] → granted_at s (same_node n) q ≡ []
front_none s n q none = by (same_node n q) refl
  where
    by : (b : Bool) → same_node n q ≡ b → (if b then front_at s q else []) ≡ []
    by true e = subst (λ x. front_at s x ≡ []) (same_node-equal n q e) none
    by false e = refl

-- a node is released for which nobody is granted by that
unlocked_queue : (s : State) (t : TxnId) (n q : NodeId) → BlocksNobody s t n → (unlocked s t.slot n).queue q ≡ s.queue q
unlocked_queue s t n q none = ap (λ (l : List Waiter). drop (length l) (s.queue q)) (front_none (with_grant s t.slot n NL) n q none)

-- the same in a state with the same locks
blocks_too : (s s' : State) (t : TxnId) (n : NodeId) → s' ≡ record s { graph = s'.graph; accepted = s'.accepted } → BlocksNobody s t n → BlocksNobody s' t n
blocks_too s s' t n is none = ap (λ (x : State). front_at (with_grant x t.slot n NL) n) is ∙ none

unlock_queue : (s s' : State) (t : TxnId) (n q : NodeId) (told : Told) → BlocksNobody s t n → Step s (command.Unlock t n) answer.Done told s'
    → s'.queue q ≡ s.queue q
unlock_queue s s' t n q told none (inr lack) = absurd (cc (lack.1.answer_is))
unlock_queue s s' t n q told none (inl goes) = by (refusal_of s (command.Unlock t n)) goes
  where
    by : (o : Option Refusal) → Goes s (command.Unlock t n) o answer.Done told s' → s'.queue q ≡ s.queue q
    by (Some r) un = absurd (cc (un.answer_is))
    by None (next, accepts, counted) =
        ap (λ (x : State). x.queue q) counted ∙ ap (λ (x : State). x.queue q) accepts.2 ∙ unlocked_queue s t n q none

amid_queue : (m m' : ManagerView) (t : TxnId) (n q : NodeId) (told : Told) → BlocksNobody (state_of m) t n
    → StepsAmid m (command.Unlock t n) answer.Done told m' → (state_of m').queue q ≡ (state_of m).queue q
amid_queue m m' t n q told none h =
    let first = upkeep_leaves (state_of m) h.ahead h.before in
    let last = upkeep_leaves h.behind (state_of m') h.after in
    ap (λ (x : State). x.queue q) last.is
    ∙ unlock_queue h.ahead h.behind t n q told (blocks_too (state_of m) h.ahead t n first.is none) h.step
    ∙ ap (λ (x : State). x.queue q) first.is

released_is : (a : RowAnswer) → is_released a ≡ true → answer_in a ≡ Some answer.Done
released_is (row_answer.Answered answer.Done) e = refl
released_is a e = absurd (cc e)

-- a row that is released and for whose node nobody is granted by that
pub released_queue : (m m' : ManagerView) (t : TxnId) (n : NodeId) (a : RowAnswer) (told : Told) → is_released a ≡ true → BlocksNobody (state_of m) t n
    → CarriesOut m (command.Unlock t n) (answer_in a) told m' → (q : NodeId) → (state_of m').queue q ≡ (state_of m).queue q
released_queue m m' t n a told is none h q =
    by (subst (λ (o : Option Answer). CarriesOut m (command.Unlock t n) o told m') (released_is a is) h)
  where
    by : CarriesOut m (command.Unlock t n) (Some answer.Done) told m' → (state_of m').queue q ≡ (state_of m).queue q
    by (inl amid) = amid_queue m m' t n q told none amid
    by (inr err) = absurd (true≢false (sym err.0))

-- the state before a try of a node that its transaction did not hold is that after its release
pub tried_blocks : (s s' : State) (t : TxnId) (n : NodeId) (k m : Mode) → IsLawful s → s.held t.slot n ≡ NL
    → Step s (try_of t (n, k)) (answer.Granted m) [] s' → BlocksNobody s' t n
tried_blocks s s' t n k m law unheld step =
    (λ i. front (most i) (λ u. back u i) (queue i)) ∙ law.front_waits n
  where
    it : Took s t (n, k) m s'
    it = took_is s t (n, k) m [] s' step

    most : s'.most ≡ s.most
    most = ap (λ (x : State). x.most) it.after

    queue : s'.queue n ≡ s.queue n
    queue = ap (λ (x : State). x.queue n) it.after

    back : (u : ℕ) → (with_grant s' t.slot n NL).held u n ≡ s.held u n
    back u = by (u == t.slot) refl
      where
        there : (b : Bool) → same_node n n ≡ b → b ≡ true
        there b e = sym e ∙ same_node-refl n

        by : (b : Bool) → (u == t.slot) ≡ b → (if b && same_node n n then NL else s'.held u n) ≡ s.held u n
        by true e = ap (λ b. if b then NL else s'.held u n) (same_node-refl n)
            ∙ sym (ap (λ (v : ℕ). s.held v n) (same_slot u t.slot e) ∙ unheld)
        by false e = ap (λ (x : State). x.held u n) it.after ∙ ap (λ b. if b && same_node n n then wanted s t.slot n k else s.held u n) e

-- a transaction that a try granted a node, and that did not hold it
pub was_unheld : (s s' : State) (t : TxnId) (n : NodeId) (k m : Mode) → Step s (try_of t (n, k)) (answer.Granted m) [] s' → was_held s t n ≡ false
    → s.held t.slot n ≡ NL
was_unheld s s' t n k m step out =
    let it = took_is s t (n, k) m [] s' step in
    let alive = txn_lives s t (took_active s t (n, k) m s' it).0 in
    same_mode-equal _ _ (by (same_mode (s.held t.slot n) NL) (sym (ap (λ b. b && not (same_mode (s.held t.slot n) NL)) alive) ∙ out))
  where
    by : (b : Bool) → not b ≡ false → b ≡ true
    by true e = refl
    by false e = absurd (true≢false e)

refused_keeps : (r : RowRefusal) (s s' : State) → ((q : NodeId) → s'.queue q ≡ s.queue q) → KeepsQueues (row_refused r) s s'
refused_keeps (row_no.Refused r) s s' h = h
refused_keeps row_no.NotRows s s' h = h

keeps_before : (came : RowTried) (s mid s' : State) → ((q : NodeId) → mid.queue q ≡ s.queue q) → KeepsQueues came mid s' → KeepsQueues came s s'
keeps_before (tried.Granted n m) s mid s' same h = tt
keeps_before (tried.OtherKeys n m) s mid s' same h = tt
keeps_before (tried.WouldBlock n) s mid s' same h = λ q. h q ∙ same q
keeps_before (tried.Refused r) s mid s' same h = λ q. h q ∙ same q
keeps_before tried.NotRows s mid s' same h = λ q. h q ∙ same q

-- A row's lock that is refused, and the release of the row after it.
module _ (d mid d' : DeliveryView) (w : Wish) (why : RowRefusal) (first : Told) (locks : LocksRowAs d w (Err why) first mid) (a : RowAnswer) (told : Told)
    (ended : Slots) (applies : AppliesCall (registry_in mid) (call.Unlock w.txn w.row) a told (registry_in d'))
    (own : CarriesOut mid.manager (own_command mid.rows (call.Unlock w.txn w.row)) (answer_in a) told d'.manager)
    (carries : Carries mid (own_command mid.rows (call.Unlock w.txn w.row)) told ended d') where
  same : mid.manager ≡ d.manager
  same = (refused_same d mid w why first locks).1

  pub back_waits : BeginsNoWait (state_of d.manager) (state_of d'.manager)
  back_waits = subst (λ (m : ManagerView). BeginsNoWait (state_of m) (state_of d'.manager)) same (no_wait_unlocked mid d' w.txn w.row a told applies own)

  pub back_ended : HasEnded (state_of d.manager) (state_of d'.manager) ended
  back_ended = subst (λ (m : ManagerView). HasEnded (state_of m) (state_of d'.manager) ended) same (carries_ended mid d' _ told ended carries)

  pub back_counted : HasNoSlot ended ⊎ (d.manager.accepted < d'.manager.accepted)
  back_counted = subst (λ (m : ManagerView). HasNoSlot ended ⊎ (m.accepted < d'.manager.accepted)) same (carries_counted mid d' _ told ended carries)

  pub back_queues : (n : NodeId) → name_of d.rows w.row ≡ Some n → is_released a ≡ true → BlocksNobody (state_of d.manager) w.txn n
      → KeepsQueues (row_refused why) (state_of d.manager) (state_of d'.manager)
  back_queues n named is none =
      refused_keeps why (state_of d.manager) (state_of d'.manager)
      (λ q. released_queue mid.manager d'.manager w.txn n a told is blocks unlocks q ∙ ap (λ (m : ManagerView). (state_of m).queue q) same)
    where
      node : named_or_none mid.rows w.row ≡ n
      node = ap (λ (v : RowsView). named_or_none v w.row) (refused_same d mid w why first locks).2 ∙ ap (λ o. unwrap_or o no_node) named

      unlocks : CarriesOut mid.manager (command.Unlock w.txn n) (answer_in a) told d'.manager
      unlocks = subst (λ x. CarriesOut mid.manager (command.Unlock w.txn x) (answer_in a) told d'.manager) node own

      blocks : BlocksNobody (state_of mid.manager) w.txn n
      blocks = subst (λ (m : ManagerView). BlocksNobody (state_of m) w.txn n) (sym same) none

-- A try of a row's node that is granted, and what follows it.
module _ (s mid s' : State) (t : TxnId) (n : NodeId) (k m : Mode) (law : IsLawful s) (step : Step s (try_of t (n, k)) (answer.Granted m) [] mid) where
  it : Took s t (n, k) m mid
  it = took_is s t (n, k) m [] mid step

  pub then_ended : (slots : Slots) → HasEnded mid s' slots → HasEnded s s' slots
  then_ended slots h own u q below was gone =
      h (steps_keep_law s mid (try_of t (n, k)) (answer.Granted m) [] law step) u q below
      (still_waits t.slot s mid (took_only s t (n, k) m mid it) u q ∙ was) gone

  one_more : mid.accepted ≡ s.accepted + 1
  one_more = ap (λ (x : State). x.accepted) it.after

  pub then_counted : (slots : Slots) → HasNoSlot slots ⊎ (mid.accepted < s'.accepted) → HasNoSlot slots ⊎ (s.accepted < s'.accepted)
  then_counted slots (inl none) = inl none
  then_counted slots (inr less) = let one = one_more in inr (omega (arith, one, less))

  pub then_low : mid.accepted ≤ s'.accepted → s.accepted ≤ s'.accepted
  then_low low = let one = one_more in omega (arith, one, low)

  pub then_queues : (came : RowTried) → KeepsQueues came mid s' → KeepsQueues came s s'
  then_queues came h = keeps_before came s mid s' (λ q. ap (λ (x : State). x.queue q) it.after) h
