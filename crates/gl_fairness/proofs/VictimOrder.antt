-- Each victim is condemned after one that comes before it.
use Rattle.std.specs.Prelude.{◌≡◌, ◌≢◌, ◌⊎◌, ℕ, zero, suc, Bool, true, ◌||◌, ◌==◌, List, [], Option, Some, None, if◌then◌else◌}
use Rattle.std.specs.Prelude.{is_some}
use Rattle.std.specs.List.{filter}
use Rattle.std.proofs.Common.{refl, sym, ap, arith, inl, inr, subst, ⊎_elim, ◌∙◌}
use Rattle.std.proofs.lemmas.Bool.Decides.{nat_tests}
use Rattle.gl_modes.proofs.Words.{same_number, split}
use Rattle.gl_modes.specs.declared.mode.Mode.{Mode}
use Rattle.gl_modes.specs.declared.node.NodeId.{NodeId}
use Rattle.gl_modes.specs.Nodes.{same_node}
use Rattle.gl_header.specs.Header.{Waiter, holds, is_among_waiters}
use Rattle.gl_waits.specs.declared.victims.Victims.TheVariants.{Youngest}
use Rattle.gl_waits.specs.Victims.{IsCandidate}
use Rattle.gl_waits.specs.Waits.{IsOnCycleOf}
use Rattle.gl_waits.proofs.Earlier.{latest-others_earlier}
use Rattle.gl_waits.proofs.VictimLemmas.{candidate-on_cycle}
use Rattle.gl_model.specs.declared.answers.Detect.{Detect}
use Rattle.gl_model.specs.declared.answers.Detect.TheVariants.{AtBlock, ByWatcher}
use Rattle.gl_model.specs.declared.txn.Status.{Status}
use Rattle.gl_model.specs.declared.txn.Status.TheVariants.{Active, Condemned, Waiting}
use Rattle.gl_model.specs.declared.txn.TxnId.{TxnId}
use Rattle.gl_model.specs.Calls.{Locks, WaitSettles, begun_at, enqueued, enters_at, freed, freed_among, freed_unless, none_among, released}
use Rattle.gl_model.specs.Calls.{stays, wanted}
use Rattle.gl_model.specs.Lawful.{IsLawful}
use Rattle.gl_model.specs.State.{SettledWithin, State, Txn, age_of, condemned, granted_at, is_waiting_at, restatus, since_of, status_in, status_of, waits_for}
use Rattle.gl_model.specs.State.{Settled, members, woken}
use Rattle.gl_model.specs.Tellings.{stripped}
use Rattle.gl_model.proofs.law.Keeps.{txn_there}
use Rattle.gl_model.proofs.law.KeptRows.{onward}
use Rattle.gl_model.proofs.law.Lock.{may_lock, waiting-lawful}
use Rattle.gl_model.proofs.law.Settle.{cycle_waits, wait_is}
use Rattle.gl_model.proofs.law.Takes.{condemned-lawful}
use Rattle.gl_steps.specs.declared.command.Answer.{Answer}
use Rattle.gl_steps.specs.declared.command.Command.TheVariants as command
use Rattle.gl_steps.specs.Tests.{refusal_of, worn}
use Rattle.gl_steps.proofs.Changes.{Change, change_of}
use Rattle.gl_steps.proofs.Changes as change
use Rattle.gl_steps.proofs.EachStep.{each_step}
use Rattle.gl_steps.proofs.LivesOn.{SameTurn, over_goes_on}
use Rattle.gl_fairness.specs.Turns.{VictimAfterALiving, VictimAfterOthers, VictimAfterSomebody, comes_before}
use Rattle.gl_fairness.proofs.Turns.{enqueued_turn}

-- Of a state in which a victim is chosen.

module _ (s : State) (law : IsLawful s) where
  -- a slot on a cycle lives
  on_cycle_lives : (t u : ℕ) → IsOnCycleOf (waits_for s) t u → is_some (s.txns u) ≡ true
  on_cycle_lives t u on = txn_there (s.txns u) _ (wait_is (status_of s u) (cycle_waits s law u t on.back.0 on.back.1)).2

  -- nobody waits for itself
  not_itself : (v u : ℕ) → waits_for s v u ≡ true → u ≢ v
  not_itself v u h e = grind (arith, nat_tests)

pub victim_after_others : VictimAfterOthers
victim_after_others c s t v u law victim candidate ne =
    latest-others_earlier (since_of s) (age_of s) (IsCandidate c (waits_for s) t) v victim u candidate
    (λ e. ne (law.ages_differ u v (on_cycle_lives s law t u (candidate-on_cycle c (waits_for s) t u candidate)) e))

pub victim_after_somebody : VictimAfterSomebody
victim_after_somebody s t v law victim =
    let next = onward (waits_for s) t v victim.is_member.is_member in (
      next.0,
      record {
        on_cycle = next.2;
        lives = on_cycle_lives s law t next.0 next.2;
        before = victim_after_others Youngest s t v next.0 law victim next.2 (not_itself s law v next.0 next.1);
      },
    )

-- Nobody else is condemned.

-- one that is condemned after a change was so before it
abbrev Calm : Option Txn → Option Txn → Type 0
Calm x y = status_in y ≡ Some Condemned → status_in x ≡ Some Condemned

woken_calm : (g : NodeId → List Waiter) (u : ℕ) (x : Option Txn) → Calm x (woken g u x)
woken_calm g u None h = h
woken_calm g u (Some x) h = by x.status h
  where
    by : (st : Status) → status_in (woken g u (Some (record x { status = st }))) ≡ Some Condemned → Some st ≡ Some Condemned
    by Active h = h
    by Condemned h = h
    by (Waiting n m) h = split (is_among_waiters u (g n))
        (λ e. absurd (cc (sym (ap (λ b. Some (if b then Active else Waiting n m)) e) ∙ h)))
        (λ e. sym (ap (λ b. Some (if b then Active else Waiting n m)) e) ∙ h)

freed_calm : (goes : NodeId → Bool) (x : Option Txn) → Calm x (freed_among goes x)
freed_calm goes None h = h
freed_calm goes (Some x) h = by x.status h
  where
    by : (st : Status) → Some (none_among goes st) ≡ Some Condemned → Some st ≡ Some Condemned
    by Active h = h
    by Condemned h = h
    by (Waiting n m) h = split (goes n)
        (λ e. absurd (cc (sym (ap (λ b. Some (if b then Active else Waiting n m)) e) ∙ h)))
        (λ e. sym (ap (λ b. Some (if b then Active else Waiting n m)) e) ∙ h)

unless_calm : (keeps : ℕ → Bool) (n : NodeId) (u : ℕ) (x : Option Txn) → Calm x (freed_unless keeps n u x)
unless_calm keeps n u x h = split (keeps u)
    (λ e. sym (ap (λ b. status_in (if b then x else freed n x)) e) ∙ h)
    (λ e. freed_calm (λ q. same_node q n) x (sym (ap (λ b. status_in (if b then x else freed n x)) e) ∙ h))

-- another status in one slot, which is not that of a victim
restatus_calm : (st : Status) → st ≢ Condemned → (s : State) (u v : ℕ) → Calm (s.txns v) (if v == u then restatus st (s.txns u) else s.txns v)
restatus_calm st other s u v h = split (v == u)
    (λ e. absurd (by (s.txns u) (sym (ap (λ b. status_in (if b then restatus st (s.txns u) else s.txns v)) e) ∙ h)))
    (λ e. sym (ap (λ b. status_in (if b then restatus st (s.txns u) else s.txns v)) e) ∙ h)
  where
    by : (x : Option Txn) → status_in (restatus st x) ≡ Some Condemned → ⊥
    by None e = cc
    by (Some x) e = other (cc e)

-- Settling.

-- some living transaction comes before v
abbrev Behind : State → ℕ → Type 0
Behind s v = (u : ℕ) × (is_some (s.txns u) ≡ true) × (comes_before s u v ≡ true)

-- if all keep their turns it came before v already
behind_before : (s x : State) (v : ℕ) → ((u : ℕ) → SameTurn (s.txns u) (x.txns u)) → Behind x v → Behind s v
behind_before s x v same b =
    let su = (same b.0).since in let au = (same b.0).age in let sv = (same v).since in let av = (same v).age in
    let e : comes_before s b.0 v ≡ comes_before x b.0 v = cc in (b.0, sym (same b.0).there ∙ b.1, e ∙ b.2)

-- v is condemned in x only if it was before, or after another that comes before it
abbrev IsFairVictim : State → ℕ → State → Type 0
IsFairVictim s v x = status_of x v ≡ Some Condemned → (status_of s v ≡ Some Condemned) ⊎ Behind s v

settled_victim : (k : ℕ) (s s' : State) (t v : ℕ) → IsLawful s → SettledWithin Youngest k s t s' → IsFairVictim s v s'
settled_victim zero s s' t v law h e = inl (ap (λ (x : State). status_of x v) (sym h.1) ∙ e)
settled_victim (suc k) s s' t v law h e = split (v == h.0)
    (λ at. let one = victim_after_somebody s t h.0 law h.1 in
    inr (one.0, one.1.lives, ap (comes_before s one.0) (same_number v h.0 at) ∙ one.1.before))
    (λ other. ⊎_elim
    (λ was. inl (sym (ap (λ b. status_in (if b then restatus Condemned (s.txns h.0) else s.txns v)) other)
    ∙ woken_calm _ v (if v == h.0 then restatus Condemned (s.txns h.0) else s.txns v) was))
    (λ b. inr (behind_before s (condemned s h.0) v (λ u. (over_goes_on s h.0 Condemned (λ q m e. cc) u).turn) b))
    (settled_victim k (condemned s h.0) s' t v (condemned-lawful s law h.0) h.2 e))

wait_settles_victim : (d : Detect) (s s' : State) (t v : ℕ) → IsLawful s → WaitSettles d Youngest s t s' → IsFairVictim s v s'
wait_settles_victim AtBlock s s' t v law h e = settled_victim h.0 s s' t v law h.1 e
wait_settles_victim ByWatcher s s' t v law h e = inl (ap (λ (x : State). status_of x v) (sym h) ∙ e)

-- Each command.

module _ (s : State) (law : IsLawful s) (young : s.victims ≡ Youngest) (v : ℕ) (a : Answer) (next : State) where
  abbrev Well : Type 0
  Well = IsFairVictim s v next

  calm : (made : State) → next ≡ made → Calm (s.txns v) (made.txns v) → Well
  calm made is c h = inl (c (ap (λ (x : State). status_of x v) (sym is) ∙ h))

  unmoved : (made : State) → next ≡ made → made.txns v ≡ s.txns v → Well
  unmoved made is same = calm made is (λ h. ap status_in (sym same) ∙ h)

  released_case : (u : ℕ) → next ≡ released s u → Well
  released_case u is = calm _ is (λ h. split (v == u)
      (λ e. absurd (cc (woken_calm got v None (sym (ap (λ b. status_in (woken got v (if b then None else s.txns v))) e) ∙ h))))
      (λ e. woken_calm got v (s.txns v) (sym (ap (λ b. status_in (woken got v (if b then None else s.txns v))) e) ∙ h)))
    where
      got : NodeId → List Waiter
      got = granted_at (stripped s u) (λ q. holds (members s q) u || is_waiting_at s u q)

  locked_case : (u : TxnId) (q : NodeId) (w : Mode) → refusal_of s (command.Lock u q w) ≡ None → Locks s u.slot q w next → Well
  locked_case u q w free locks = split (enters_at s u.slot q w) (λ e. unmoved _ (locks.at_once e) refl) (λ e h.
      let x : State = enqueued s u.slot q (wanted s u.slot q w) in
      ⊎_elim
      (λ was. inl (restatus_calm (Waiting q (wanted s u.slot q w)) (λ f. cc f) s u.slot v was))
      (λ b. inr (behind_before s x v (enqueued_turn s u.slot q (wanted s u.slot q w)) b))
      (wait_settles_victim s.detect x next u.slot v (waiting-lawful s law u q w (may_lock s u q w (worn s) [] free).0 e)
      (subst (λ c. WaitSettles s.detect c x u.slot next) young (locks.waits e)) h))

  begins_in : (u age since : ℕ) → next ≡ begun_at s u age since → Well
  begins_in u age since is = calm _ is (λ h. split (v == u)
      (λ e. absurd (cc (sym (ap (λ b. status_in (if b then new else s.txns v)) e) ∙ h)))
      (λ e. sym (ap (λ b. status_in (if b then new else s.txns v)) e) ∙ h))
    where
      new : Option Txn
      new = Some (record { age = age; since = since; status = Active })

  changed : Change s a next → Well
  changed (change.Regraphed g is) = unmoved _ is refl
  changed (change.Born u q g active birth is) = unmoved _ is refl
  changed (change.Begun u age since is) = begins_in u age since is
  changed (change.Locked u q w free locks is) = locked_case u q w free locks
  changed (change.Granted u q w free is) = unmoved _ is refl
  changed (change.Unlocked u q free is) = calm _ is (woken_calm _ v (s.txns v))
  changed (change.Shed u q free is) = calm _ is (woken_calm _ v (s.txns v))
  changed (change.Cancelled u is) = calm _ is (λ h. restatus_calm Active (λ f. cc f) s u.slot v (woken_calm _ v _ h))
  changed (change.Released u is) = released_case u.slot is
  changed (change.Settles u is) = let settled = subst (λ c. Settled c s u.slot next) young is in settled_victim settled.0 s next u.slot v law settled.1
  changed (change.Departed goes g is) = calm _ is (freed_calm goes (s.txns v))
  changed (change.Parted u i q bound g free split is) = calm _ is (freed_calm (λ y. same_node y i) (s.txns v))
  changed (change.Moved x ps g is) = calm _ is (unless_calm (λ y. is_among_waiters y (filter (stays s ps) (s.queue x))) x v (s.txns v))

pub victim_after_a_living : VictimAfterALiving
victim_after_a_living s s' c a told v law young step becomes =
    ⊎_elim (λ was. absurd (becomes.not_before was)) (λ b. b)
    (each_step (IsFairVictim s v) s c a told s' (λ h. inl h) (λ next h. h)
    (λ free next acc. changed s law young v a next (change_of s c a told next free acc)) step becomes.after)
