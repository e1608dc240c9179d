-- A lock that is answered with a mode holds one that covers the requested mode, even if it had to wait and was granted after a victim's wait ended.
use Rattle.gl_waits.specs.declared.victims.Victims.{Victims}
use Rattle.gl_waits.proofs.VictimLemmas.{candidate-on_cycle}
use Rattle.std.specs.Prelude.{◌≡◌, ◌⊎◌, ℕ, zero, suc, Bool, true, false, ◌&&◌, ◌==◌, List, [], Option, Some, None, if◌then◌else◌}
use Rattle.std.proofs.Common.{refl, sym, ap, subst, ◌∙◌, inl, inr, ⊎_elim}
use mathlib.Core.Bool.{true≢false}
use Rattle.gl_modes.proofs.Words.{number_same, same_number, split}
use Rattle.gl_modes.proofs.ModeLemmas.{supremum-above_right}
use Rattle.gl_modes.proofs.NodeLemmas.{same_node-refl}
use Rattle.gl_modes.specs.declared.mode.Mode.{Mode}
use Rattle.gl_modes.specs.declared.node.NodeId.{NodeId}
use Rattle.gl_modes.specs.declared.refusal.Refusal.{Refusal}
use Rattle.gl_modes.specs.declared.refusal.Refusal.TheVariants as no
use Rattle.gl_modes.specs.Modes.{is_at_least}
use Rattle.gl_modes.specs.Nodes.{same_node}
use Rattle.gl_header.specs.Header.{Waiter, is_among_waiters, without_waiter}
use Rattle.gl_waits.specs.Waits.{IsOnCycleOf}
use Rattle.gl_model.specs.declared.answers.Detect.{Detect}
use Rattle.gl_model.specs.declared.answers.Detect.TheVariants.{AtBlock, ByWatcher}
use Rattle.gl_model.specs.declared.txn.Status.{Status}
use Rattle.gl_model.specs.declared.txn.Status.TheVariants.{Active, Waiting, Condemned}
use Rattle.gl_model.specs.declared.txn.TxnId.{TxnId}
use Rattle.gl_model.specs.Calls.{WaitSettles, enqueued, enters_at, granted, wanted}
use Rattle.gl_model.specs.Lawful.{IsLawful}
use Rattle.gl_model.specs.State.{awake, condemned, granted_at, is_waiting_at, without_wait, woken, State, Txn, members, restatus, status_in}
use Rattle.gl_model.specs.State.{status_of, SettledWithin, is_wait, waits_for}
use Rattle.gl_model.specs.Tellings.{Told}
use Rattle.gl_model.proofs.law.Keeps.{less-lawful, one_of, woken_sleeps, IsLawfulBut}
use Rattle.gl_model.proofs.law.Lock.{may_lock, waiting-lawful}
use Rattle.gl_model.proofs.law.Takes.{condemned-lawful, restatus_is, without_wait-less}
use Rattle.gl_model.proofs.telling.Between.{woken_up}
use Rattle.gl_table.proofs.inside.Boards.{cycle_waits}
use Rattle.gl_model.proofs.queues.Waiters.{granted_mode, last_mode}
use Rattle.gl_steps.specs.declared.command.Answer.{Answer}
use Rattle.gl_steps.specs.declared.command.Answer.TheVariants as answer
use Rattle.gl_steps.specs.declared.command.Command.TheVariants as command
use Rattle.gl_steps.specs.Step.{Goes, Step, Unchanged, lock_answer}
use Rattle.gl_steps.specs.Tests.{may_lack_memory, refusal_of, worn}

-- a transaction that does not wait is on no cycle, so settling it changes nothing
idle_done : (c : Victims) (k : ℕ) (s s' : State) (t : ℕ) → is_wait (status_of s t) ≡ false → SettledWithin c k s t s' → s' ≡ s
idle_done c zero s s' t idle h = h.1
idle_done c (suc k) s s' t idle h =
    let chosen = candidate-on_cycle c (waits_for s) t h.0 h.1.is_member.is_member in
    let on : IsOnCycleOf (waits_for s) h.0 t = record { there = chosen.back; back = chosen.there } in
    absurd (true≢false (sym (cycle_waits s h.0 t on) ∙ idle))

-- the outcome for a transaction that waited on n for w
abbrev Comes : State → ℕ → NodeId → Mode → Type 0
Comes s t n w = (is_wait (status_of s t) ≡ true) ⊎ ((status_of s t ≡ Some Condemned) ⊎ (s.held t n ≡ w))

module _ (s : State) (law : IsLawful s) (v t : ℕ) (apart : (t == v) ≡ false) (n : NodeId) (w : Mode) (waits : status_of s t ≡ Some (Waiting n w)) where
  abbrev b : State
  b = without_wait s v Condemned

  abbrev here : NodeId → Bool
  here = is_waiting_at s v

  law_but : IsLawfulBut here b
  law_but = less-lawful s law s.held (λ q. without_waiter v (s.queue q)) (λ u. if u == v then restatus Condemned (s.txns v) else s.txns u) here
      (without_wait-less s law v Condemned (λ q m h. cc))

  same_txn : b.txns t ≡ s.txns t
  same_txn = ap (λ c. if c then restatus Condemned (s.txns v) else s.txns t) apart

  still : status_in (b.txns t) ≡ Some (Waiting n w)
  still = ap status_in same_txn ∙ waits

  -- it still waits, if it is not among those that are granted
  sleeps : is_among_waiters t (granted_at b here n) ≡ false → status_of (condemned s v) t ≡ Some (Waiting n w)
  sleeps out = woken_sleeps (granted_at b here) t n w (b.txns t) still out

  -- or it is granted what it waited for, and active
  wakes : is_among_waiters t (granted_at b here n) ≡ true → (status_of (condemned s v) t ≡ Some Active) × ((condemned s v).held t n ≡ w)
  wakes among = (
    woken_up (granted_at b here) t n w (b.txns t) still among,
    granted_mode (members b n) t (granted_at b here n) ∙ ap (last_mode (members b n t)) (one_of b here law_but t n w still among).0,
  )

-- a condemned transaction stays condemned while others are granted
stays_condemned : (g : NodeId → List Waiter) (u : ℕ) (x : Option Txn) → status_in x ≡ Some Condemned → status_in (woken g u x) ≡ Some Condemned
stays_condemned g u None e = absurd (cc e)
stays_condemned g u (Some y) e = let is : y.status ≡ Condemned = cc e in ap (λ z. Some (awake g u z)) is

self_condemned : (s : State) (t : ℕ) (n : NodeId) (w : Mode) → status_of s t ≡ Some (Waiting n w) → status_of (condemned s t) t ≡ Some Condemned
self_condemned s t n w waits =
    stays_condemned (granted_at (without_wait s t Condemned) (is_waiting_at s t)) t ((without_wait s t Condemned).txns t)
    (ap (λ c. status_in (if c then restatus Condemned (s.txns t) else s.txns t)) (number_same t t refl) ∙ restatus_is Condemned (Waiting n w) (s.txns t) waits)

settled_comes : (c : Victims) (k : ℕ) (s s' : State) (t : ℕ) (n : NodeId) (w : Mode) → IsLawful s → status_of s t ≡ Some (Waiting n w)
    → SettledWithin c k s t s' → Comes s' t n w
settled_comes c zero s s' t n w law waits h = inl (ap (λ (x : State). is_wait (status_of x t)) h.1 ∙ ap is_wait waits)
settled_comes c (suc k) s s' t n w law waits h =
    let v = h.0 in
    split (t == v)
    (λ e.
    let same = same_number t v e in
    let out : status_of (condemned s v) t ≡ Some Condemned = victim v same in
    let done = idle_done c k (condemned s v) s' t (ap is_wait out) h.2 in
    inr (inl (ap (λ (x : State). status_of x t) done ∙ out)))
    (λ apart. split (is_among_waiters t (granted_at (without_wait s v Condemned) (is_waiting_at s v) n))
    (λ among.
    let woke = wakes s law v t apart n w waits among in
    let done = idle_done c k (condemned s v) s' t (ap is_wait woke.0) h.2 in
    inr (inr (ap (λ (x : State). x.held t n) done ∙ woke.1)))
    (λ out. settled_comes c k (condemned s v) s' t n w (condemned-lawful s law v) (sleeps s law v t apart n w waits out) h.2))
  where
    -- the victim is condemned, and each that is granted then is another
    victim : (v : ℕ) → t ≡ v → status_of (condemned s v) t ≡ Some Condemned
    victim v same = subst (λ (x : ℕ). status_of (condemned s x) t ≡ Some Condemned) same (self_condemned s t n w waits)

-- an answer with a mode names the held mode, of a transaction that neither waits nor is condemned
record Answered (k held : Mode) (o : Option Status) : Type 0 where
  pub held_is : k ≡ held
  pub quiet : is_wait o ≡ false
  pub not_condemned : o ≡ Some Condemned → ⊥

answered_held : (k held : Mode) (o : Option Status) → answer.Granted k ≡ lock_answer held o → Answered k held o
answered_held k held None e = record { held_is = cc e; quiet = refl; not_condemned = λ h. cc h }
answered_held k held (Some Active) e = record { held_is = cc e; quiet = refl; not_condemned = λ h. cc h }
answered_held k held (Some (Waiting n m)) e = absurd (cc e)
answered_held k held (Some Condemned) e = absurd (cc e)

module _ (s : State) (law : IsLawful s) (t : TxnId) (n : NodeId) (m k : Mode) where
  -- granted at once
  at_once : (next : State) → next ≡ granted s t.slot n m → next.held t.slot n ≡ wanted s t.slot n m
  at_once next is =
      ap (λ (x : State). x.held t.slot n) is
      ∙ ap (λ c. if c && same_node n n then wanted s t.slot n m else s.held t.slot n) (number_same t.slot t.slot refl)
      ∙ ap (λ c. if c then wanted s t.slot n m else s.held t.slot n) (same_node-refl n)

  enqueued_waits : status_of s t.slot ≡ Some Active → status_of (enqueued s t.slot n (wanted s t.slot n m)) t.slot ≡ Some (Waiting n (wanted s t.slot n m))
  enqueued_waits active =
      ap (λ c. status_in (if c then restatus (Waiting n (wanted s t.slot n m)) (s.txns t.slot) else s.txns t.slot)) (number_same t.slot t.slot refl)
      ∙ restatus_is (Waiting n (wanted s t.slot n m)) Active (s.txns t.slot) active

  -- or after a wait that other commands ended
  after_wait : (d : Detect) (next : State) → IsLawful (enqueued s t.slot n (wanted s t.slot n m)) → status_of s t.slot ≡ Some Active
      → WaitSettles d s.victims (enqueued s t.slot n (wanted s t.slot n m)) t.slot next
      → is_wait (status_of next t.slot) ≡ false → (status_of next t.slot ≡ Some Condemned → ⊥) → next.held t.slot n ≡ wanted s t.slot n m
  after_wait AtBlock next queued active settles quiet free =
      ⊎_elim (λ h. absurd (true≢false (sym h ∙ quiet)))
      (λ h. ⊎_elim (λ e. absurd (free e)) (λ e. e) h)
      (settled_comes s.victims settles.0 (enqueued s t.slot n (wanted s t.slot n m)) next t.slot n (wanted s t.slot n m) queued
      (enqueued_waits active) settles.1)
  after_wait ByWatcher next queued active settles quiet free =
      absurd (true≢false (sym (ap (λ (x : State). is_wait (status_of x t.slot)) settles ∙ ap is_wait (enqueued_waits active)) ∙ quiet))

  held_covers : (next : State) → k ≡ next.held t.slot n → next.held t.slot n ≡ wanted s t.slot n m → is_at_least k m ≡ true
  held_covers next is held = ap (λ x. is_at_least x m) (is ∙ held) ∙ supremum-above_right (s.held t.slot n) m

  goes : (told : Told) (s' : State) (r : Option Refusal) → refusal_of s (command.Lock t n m) ≡ r
      → Goes s (command.Lock t n m) r (answer.Granted k) told s' → is_at_least k m ≡ true
  goes told s' (Some r) e same = absurd (cc (same.answer_is))
  goes told s' None e ends =
      let next = ends.0 in
      let locks = ends.1.0 in
      let a = answered_held k (next.held t.slot n) (status_of next t.slot) ends.1.1 in
      let may = (may_lock s t n m (worn s) [] e).0 in
      held_covers next a.held_is
      (split (enters_at s t.slot n m)
      (λ h. at_once next (locks.at_once h))
      (λ h. after_wait s.detect next (waiting-lawful s law t n m may h) may.active (locks.waits h) a.quiet a.not_condemned))

  pub lock_covers : (told : Told) (s' : State) → Step s (command.Lock t n m) (answer.Granted k) told s' → is_at_least k m ≡ true
  lock_covers told s' step =
      ⊎_elim (λ h. goes told s' (refusal_of s (command.Lock t n m)) refl h)
      (λ (lack : (may_lack_memory s (command.Lock t n m) ≡ true) × Unchanged s (answer.Granted k) told s' (answer.Refused no.NoMemory)). absurd
      (cc (lack.1.answer_is))) step

-- the same of any answer
pub answer_covers : (s : State) → IsLawful s → (t : TxnId) (n : NodeId) (m : Mode) (told : Told) (s' : State) (a : Answer)
    → Step s (command.Lock t n m) a told s' → (k : Mode) → a ≡ answer.Granted k → is_at_least k m ≡ true
answer_covers s law t n m told s' a step k is = lock_covers s law t n m k told s' (subst (λ (x : Answer). Step s (command.Lock t n m) x told s') is step)
