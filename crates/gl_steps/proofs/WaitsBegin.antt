-- A wait begins by a lock that is answered so, and by nothing else.
use Rattle.std.specs.Prelude.{◌≡◌, ◌⊎◌, ℕ, false, ◌&&◌, ◌||◌, ◌==◌, Option, Some, None, if◌then◌else◌}
use Rattle.std.specs.List.{filter}
use Rattle.std.proofs.Common.{refl, sym, ap, subst, ◌∙◌, inl, inr, ⊎_elim}
use mathlib.Core.Bool.{true≢false}
use Rattle.gl_modes.proofs.Words.{same_number, split}
use Rattle.gl_modes.specs.declared.mode.Mode.{Mode}
use Rattle.gl_modes.specs.declared.mode.Mode.TheVariants.{NL}
use Rattle.gl_modes.specs.declared.node.NodeId.{NodeId}
use Rattle.gl_modes.specs.Nodes.{same_node}
use Rattle.gl_header.specs.Header.{holds, is_among_waiters}
use Rattle.gl_model.specs.declared.txn.Status.{Status}
use Rattle.gl_model.specs.declared.txn.Status.TheVariants.{Active, Waiting, Condemned}
use Rattle.gl_model.specs.declared.txn.TxnId.{TxnId}
use Rattle.gl_model.specs.Calls.{Locks, begun_at, enqueued, enters_at, raised, stays, wanted, is_covered}
use Rattle.gl_model.specs.State.{granted_at, is_waiting_at, woken, State, Txn, members, restatus, status_in, status_of, with_grant, is_wait}
use Rattle.gl_model.specs.Tellings.{stripped, Told}
use Rattle.gl_steps.specs.declared.command.Answer.{Answer}
use Rattle.gl_steps.specs.declared.command.Answer.TheVariants as answer
use Rattle.gl_steps.specs.declared.command.Command.{Command}
use Rattle.gl_steps.specs.Promises.{BeginsWaits, NobodyWaits}
use Rattle.gl_steps.proofs.Changes.{Change, change_of}
use Rattle.gl_steps.proofs.Changes as change
use Rattle.gl_steps.specs.Step.{Step, lock_answer}
use Rattle.gl_steps.proofs.EachStep.{each_step}
use Rattle.gl_steps.proofs.LivesOn.{GoesOn, freed_on, over_goes_on, pumped_goes_on, settled_goes_on, unless_on, wait_settles_goes_on, woken_on, freed_among_on}

-- after the step, t waits on n for m
module _ (s : State) (t : ℕ) (n : NodeId) (m : Mode) (a : Answer) where
  abbrev Began : State → Type 0
  Began next = status_of next t ≡ Some (Waiting n m) → (status_of s t ≡ Some (Waiting n m)) ⊎ (a ≡ answer.Waiting)

  module _ (next : State) where
    same : (made : State) → next ≡ made → made.txns t ≡ s.txns t → Began next
    same made is e w = inl (ap status_in (sym e) ∙ ap (λ (x : State). status_of x t) (sym is) ∙ w)

    on : (made : State) → next ≡ made → GoesOn s made t → Began next
    on made is goes w = inl (goes.waits n m (ap (λ (x : State). status_of x t) (sym is) ∙ w))

    -- it is new, or none
    other_status : (o : Option Status) → (o ≡ Some (Waiting n m) → ⊥) → status_of next t ≡ o → Began next
    other_status o other is w = absurd (other (sym is ∙ w))

    -- one that is released is gone, and others are woken
    released_case : (u : ℕ) → (got : status_of next t ≡ status_in (woken
        (granted_at (stripped s u) (λ q. holds (members s q) u || is_waiting_at s u q)) t (if t == u then None else s.txns t))) → Began next
    released_case u got w =
        let front = granted_at (stripped s u) (λ q. holds (members s q) u || is_waiting_at s u q) in
        split (t == u)
        (λ e. absurd (let none : None ≡ Some (Waiting n m) = sym (got ∙ ap (λ b. status_in (woken front t (if b then None else s.txns t))) e) ∙ w in cc none))
        (λ e. inl ((woken_on front t (s.txns t)).waits n m (sym (got ∙ ap (λ b. status_in (woken front t (if b then None else s.txns t))) e) ∙ w)))

    -- another's lock begins no wait of t, and its own is answered so
    locked_case : (u : TxnId) (q : NodeId) (w : Mode) → Locks s u.slot q w next → a ≡ lock_answer (next.held u.slot q) (status_of next u.slot) → Began next
    locked_case u q w locks is waits =
        split (t == u.slot)
        (λ e. inr (is ∙ ap (lock_answer (next.held u.slot q)) (subst (λ (v : ℕ). status_of next v ≡ Some (Waiting n m)) (same_number t u.slot e) waits)))
        (λ e. split (enters_at s u.slot q w)
        (λ enters. same _ (locks.at_once enters) refl waits)
        (λ queued.
        let x : State = enqueued s u.slot q (wanted s u.slot q w) in
        let before : x.txns t ≡ s.txns t = ap (λ b. if b then restatus (Waiting q (wanted s u.slot q w)) (s.txns u.slot) else s.txns t) e in
        inl (ap status_in (sym before) ∙ (wait_settles_goes_on s.detect s.victims x next u.slot t (locks.waits queued)).waits n m waits)))

    begins_in : (u age since : ℕ) → next ≡ begun_at s u age since → Began next
    begins_in u age since is =
        let new : Option Txn = Some (record { age = age; since = since; status = Active }) in
        split (t == u)
        (λ e. other_status (Some Active) (λ h. cc h)
        (ap (λ (x : State). status_of x t) is ∙ ap (λ b. status_in (if b then new else s.txns t)) e))
        (λ e. same _ is (ap (λ b. if b then new else s.txns t) e))

    changed : Change s a next → Began next
    changed (change.Regraphed g is) = same _ is refl
    changed (change.Born u q g active birth is) = same _ is refl
    changed (change.Begun u age since is) = begins_in u age since is
    changed (change.Locked u q w free locks is) = locked_case u q w locks is
    changed (change.Granted u q w free is) = same _ is refl
    changed (change.Unlocked u q free is) = on _ is (pumped_goes_on (with_grant s u.slot q NL) (same_node q) t)
    changed (change.Shed u q free is) =
        let up : State = raised s u.slot q in
        on _ is (pumped_goes_on (record up { held = λ v c. if (v == u.slot) && is_covered up u.slot q c then NL else up.held v c })
        (is_covered up u.slot q) t)
    changed (change.Cancelled u is) = on _ is (over_goes_on s u.slot Active (λ q w h. cc) t)
    changed (change.Released u is) = released_case u.slot (ap (λ (x : State). status_of x t) is)
    changed (change.Settles u is) = λ w. inl ((settled_goes_on s.victims s next u.slot t is).waits n m w)
    changed (change.Departed goes g is) = on _ is (freed_among_on goes (s.txns t))
    changed (change.Parted u i q bound g free split is) = on _ is (freed_on i (s.txns t))
    changed (change.Moved x ps g is) = on _ is (unless_on (λ v. is_among_waiters v (filter (stays s ps) (s.queue x))) x t (s.txns t))

pub begins_waits : BeginsWaits
begins_waits s s' c a list t n m step =
    each_step (Began s t n m a) s c a list s' (λ w. inl w) (λ next h. h) (λ free next acc. changed s t n m a next (change_of s c a list next free acc)) step

-- so if nobody waits, a step that is not answered with a wait leaves nobody waiting
pub nobody_waits_on : (s s' : State) (c : Command) (a : Answer) (list : Told) → NobodyWaits s → (a ≡ answer.Waiting → ⊥) → Step s c a list s' → NobodyWaits s'
nobody_waits_on s s' c a list idle goes_on step t = by (status_of s' t) refl
  where
    by : (o : Option Status) → status_of s' t ≡ o → is_wait o ≡ false
    by None e = refl
    by (Some Active) e = refl
    by (Some Condemned) e = refl
    by (Some (Waiting n m)) e = ⊎_elim (λ before. absurd (true≢false (sym (ap is_wait before) ∙ idle t))) (λ is. absurd (goes_on is))
        (begins_waits s s' c a list t n m step e)
