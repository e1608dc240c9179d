-- Which steps lower a grant, and after which a transaction is ready.
use Rattle.std.specs.Prelude.{◌≡◌, ◌≢◌, ◌⊎◌, ℕ, Bool, true, false, ◌&&◌, ◌||◌, ◌==◌, List, Option, Some, None, if◌then◌else◌, is_some}
use Rattle.std.specs.List.{filter}
use Rattle.std.proofs.Common.{refl, sym, ap, subst, ◌∙◌, inl, inr, ⊎_elim}
use Rattle.gl_modes.specs.declared.mode.Mode.{Mode}
use Rattle.gl_modes.specs.declared.mode.Mode.TheVariants.{X}
use Rattle.gl_modes.specs.declared.node.NodeId.{NodeId}
use Rattle.gl_modes.specs.Modes.{is_at_least}
use Rattle.gl_modes.specs.Nodes.{same_node}
use Rattle.gl_modes.proofs.ModeLemmas.{at_least-refl, at_least-transitive, supremum-above}
use Rattle.gl_modes.proofs.NodeLemmas.{same_node-equal}
use Rattle.gl_modes.proofs.Words.{and_both, cases_of, clash, no, not_true, number_other, number_same, other_number, same_number, split}
use Rattle.gl_graph.specs.Splits.{next_interval}
use Rattle.gl_graph.specs.Changes.{rekeyed_parents}
use Rattle.gl_header.specs.Header.{Waiter, holds, is_among_waiters}
use Rattle.gl_waits.specs.declared.victims.Victims.{Victims}
use Rattle.gl_model.specs.declared.answers.Detect.{Detect}
use Rattle.gl_model.specs.declared.answers.Detect.TheVariants.{AtBlock}
use Rattle.gl_model.specs.declared.txn.Status.{Status}
use Rattle.gl_model.specs.declared.txn.Status.TheVariants.{Active, Condemned, Waiting}
use Rattle.gl_model.specs.declared.txn.TxnId.{TxnId}
use Rattle.gl_model.specs.Calls.{Locks, WaitSettles, begun_at, enqueued, enters_at, freed_among, freed_unless, goes_with, released, stays, wanted}
use Rattle.gl_model.specs.Lawful.{IsLawful}
use Rattle.gl_model.specs.State.{State, Txn, age_in, granted_at, is_waiting_at, live_by, lives, members, pumped, restatus, status_in, status_of}
use Rattle.gl_model.specs.State.{without_wait, woken}
use Rattle.gl_model.proofs.law.Keeps.{nl_is}
use Rattle.gl_model.proofs.law.Lock.{may_lock, waiting-lawful}
use Rattle.gl_model.proofs.law.Takes.{restatus_quiet}
use Rattle.gl_model.proofs.queues.Waiters.{if-true, without_self}
use Rattle.gl_model.proofs.telling.Follows.{WaitsWell, absent_well, lawful_waits, pumped_follows}
use Rattle.gl_steps.specs.declared.command.Answer.{Answer}
use Rattle.gl_steps.specs.declared.command.Command.{Command}
use Rattle.gl_steps.specs.declared.command.Command.TheVariants as command
use Rattle.gl_steps.specs.Promises.{is_of_rows, names, same_txn}
use Rattle.gl_steps.specs.Step.{Accepts}
use Rattle.gl_steps.specs.Tests.{refusal_of, tests_of, worn}
use Rattle.gl_model.specs.Tellings.{Told, stripped}
use Rattle.gl_model.proofs.law.Tests.{active_after}
use Rattle.gl_steps.proofs.EachStep.{each_step}
use Rattle.gl_steps.proofs.Keeps.{grown}
use Rattle.gl_steps.proofs.LivesOn.{wait_settles_goes_on}
use Rattle.gl_steps.proofs.NotRefused.{differ, txn_lives}
use Rattle.gl_steps.proofs.OneStep.{all_none, step_keeps}
use Rattle.gl_steps.proofs.OtherChanges.{enqueued_follows, settled_follows, wait_settles_follows, without_wait_follows}
use Rattle.gl_steps.proofs.OthersKeep.{over_of_step}
use Rattle.gl_steps.proofs.ToldGrants.{txn_there}
use Rattle.gl_parts.specs.Whole.{Part, held_at, held_by_name, is_in}
use Rattle.gl_parts.specs.Leading.{covers, is_ready}
use Rattle.gl_parts.specs.Actions.{KeepsName, Takes, may_wait, releases, txn_at}
use Rattle.gl_parts.specs.Promises.{MainStepsCanCopy, OthersStayCovered}
use Rattle.gl_parts.proofs.Actions.{taken_lawful, x_top}
use Rattle.gl_parts.proofs.Leading.{out_covered}

itself : (o : Option Txn) → is_some o ≡ true → live_by (age_in o) o ≡ true
itself None h = h
itself (Some x) h = number_same x.age x.age refl

pub names_itself : (s : State) (t : ℕ) → is_some (s.txns t) ≡ true → lives s (record { slot = t; age = age_in (s.txns t) }) ≡ true
names_itself s t h = itself (s.txns t) h

pub active_there : (o : Option Txn) → status_in o ≡ Some Active → is_some o ≡ true
active_there None h = cc
active_there (Some x) h = refl

-- Grants.

module _ (s : State) (law : IsLawful s) (t : ℕ) where
  abbrev NoneFalls : State → Type 0
  NoneFalls next = (n : NodeId) → is_at_least (next.held t n) (s.held t n) ≡ true

  module _ (next : State) where
    from : (made : State) → next ≡ made → NoneFalls made → NoneFalls next
    from made is h = subst NoneFalls (sym is) h

    same : (made : State) → next ≡ made → ((n : NodeId) → made.held t n ≡ s.held t n) → NoneFalls next
    same made is e = from made is (λ n. ap (λ m. is_at_least m (s.held t n)) (e n) ∙ at_least-refl (s.held t n))

    given : (u : ℕ) (q : NodeId) (m : Mode) → is_at_least m (s.held u q) ≡ true → (made : State) → next ≡ made
        → ((n : NodeId) → made.held t n ≡ (if (t == u) && same_node n q then m else s.held t n)) → NoneFalls next
    given u q m more made is e =
        from made is
        (λ n. ap (λ x. is_at_least x (s.held t n)) (e n)
        ∙ split ((t == u) && same_node n q)
        (λ y. let it = and_both _ _ y in
        ap (λ b. is_at_least (if b then m else s.held t n) (s.held t n)) y
        ∙ subst (λ x. is_at_least m (s.held t x) ≡ true) (sym (same_node-equal n q it.1))
        (subst (λ v. is_at_least m (s.held v q) ≡ true) (sym (same_number t u it.0)) more))
        (λ y. ap (λ b. is_at_least (if b then m else s.held t n) (s.held t n)) y ∙ at_least-refl (s.held t n)))

    locked : (u : TxnId) (q : NodeId) (m : Mode) → refusal_of s (command.Lock u q m) ≡ None → Locks s u.slot q m next → NoneFalls next
    locked u q m free locks =
        split (enters_at s u.slot q m)
        (λ e. given u.slot q (wanted s u.slot q m) (supremum-above (s.held u.slot q) m) _ (locks.at_once e) (λ n. refl))
        (λ e. let x : State = enqueued s u.slot q (wanted s u.slot q m) in
        let well = lawful_waits x (waiting-lawful s law u q m (may_lock s u q m (worn s) _ free).0 e) t in
        grown x next t (wait_settles_follows s.detect s.victims x u.slot next t (locks.waits e) well).grants)

    -- the end of a wait
    ended_well : (u : ℕ) → WaitsWell (without_wait s u Active) t
    ended_well u =
        split (u == t)
        (λ e. subst (λ v. WaitsWell (without_wait s v Active) t) (sym (same_number u t e))
        (absent_well (without_wait s t Active) t (λ q. without_self t (s.queue q))
        (λ q m w. restatus_quiet Active (λ a b e. cc) (s.txns t) q m (sym (ap status_in (if-true (s.txns t) (number_same t t refl))) ∙ w))))
        (λ e. (without_wait_follows s u t Active (other_number u t e) (lawful_waits s law t)).well)

    cancelled_case : (u : ℕ) → next ≡ pumped (without_wait s u Active) (is_waiting_at s u) → NoneFalls next
    cancelled_case u is =
        from _ is
        (grown (without_wait s u Active) (pumped (without_wait s u Active) (is_waiting_at s u)) t
        (pumped_follows (without_wait s u Active) (is_waiting_at s u) t (ended_well u)).grants)

    kept : (c : Command) (a : Answer) (told : Told) → releases c ≡ false → refusal_of s c ≡ None → Accepts s c a told next → NoneFalls next
    kept (command.Inner ps) a told r free acc = same _ acc.4 (λ n. refl)
    kept (command.File ps) a told r free acc = same _ acc.4 (λ n. refl)
    kept (command.Index ps f bs) a told r free acc = same _ acc.4 (λ n. refl)
    kept command.Begin a told r free acc = same _ acc.4 (λ n. refl)
    kept (command.BeginAgain since) a told r free acc = same _ acc.4 (λ n. refl)
    kept (command.Join u since) a told r free acc = same _ acc.2 (λ n. refl)
    kept (command.Lock u q m) a told r free acc = locked u q m free acc.0
    kept (command.Try u q m) a told r free acc = given u.slot q (wanted s u.slot q m) (supremum-above (s.held u.slot q) m) _ acc.2 (λ n. refl)
    kept (command.Unlock u q) a told r free acc = cc
    kept (command.Escalate u q) a told r free acc = cc
    kept (command.Cancel u) a told r free acc = cancelled_case u.slot acc.2
    kept (command.Commit u) a told r free acc = cc
    kept (command.Renew u since) a told r free acc = same _ acc.2 (λ n. refl)
    kept (command.Abort u) a told r free acc = cc
    kept (command.Settle u) a told r free acc = grown s next t (settled_follows s.victims s u.slot next t acc.2 (lawful_waits s law t)).grants
    kept (command.Insert u f keys) a told r free acc = given u.slot acc.0 X (x_top (s.held u.slot acc.0)) _ acc.4 (λ n. refl)
    kept (command.Delete u q) a told r free acc = cc
    kept (command.Rekey u q i key) a told r free acc = same _ acc.2 (λ n. refl)
    kept (command.Move u q ps) a told r free acc = same _ acc.2 (λ n. refl)
    kept (command.Group q) a told r free acc = absurd acc
    kept (command.Held u q) a told r free acc = absurd acc
    kept (command.Effective u q) a told r free acc = absurd acc
    kept (command.Adopt f keys) a told r free acc = same _ acc.4 (λ n. refl)
    kept (command.Forget q) a told r free acc = same _ acc.2 (λ n. refl)
    kept (command.Drop u q) a told r free acc = cc
    kept (command.IndexBy u ps f bs rs ks) a told r free acc = given u.slot acc.0 X (x_top (s.held u.slot acc.0)) _ acc.4 (λ n. refl)
    kept (command.Split u i bound) a told r free acc = given u.slot acc.0 X (x_top (s.held u.slot acc.0)) _ acc.4 (λ n. refl)
    kept (command.Merge u i) a told r free acc = cc

-- A slot that is ready stays ready, but for a lock of its own.

absent_ready : (o : Option Txn) → is_some o ≡ false → is_ready (status_in o) ≡ true
absent_ready None h = refl
absent_ready (Some x) h = cc

ready_is : (o : Option Txn) → is_ready (status_in o) ≡ true → (is_some o ≡ false) ⊎ (status_in o ≡ Some Active)
ready_is None h = inl refl
ready_is (Some x) h = by x.status h
  where
    by : (st : Status) → is_ready (Some st) ≡ true → (is_some (Some (record x { status = st })) ≡ false) ⊎ (Some st ≡ Some Active)
    by Active e = inr refl
    by (Waiting q m) e = cc
    by Condemned e = cc

pub there_active : (o : Option Txn) → is_some o ≡ true → is_ready (status_in o) ≡ true → status_in o ≡ Some Active
there_active o there ready = ⊎_elim (λ absent. clash there absent) (λ active. active) (ready_is o ready)

woken_ready : (g : NodeId → List Waiter) (t : ℕ) (o : Option Txn) → is_ready (status_in o) ≡ true → is_ready (status_in (woken g t o)) ≡ true
woken_ready g t None h = refl
woken_ready g t (Some x) h = by x.status h
  where
    by : (st : Status) → is_ready (Some st) ≡ true → is_ready (status_in (woken g t (Some (record x { status = st })))) ≡ true
    by Active e = refl
    by (Waiting q m) e = cc
    by Condemned e = cc

freed_ready : (goes : NodeId → Bool) (o : Option Txn) → is_ready (status_in o) ≡ true → is_ready (status_in (freed_among goes o)) ≡ true
freed_ready goes None h = refl
freed_ready goes (Some x) h = by x.status h
  where
    by : (st : Status) → is_ready (Some st) ≡ true → is_ready (status_in (freed_among goes (Some (record x { status = st })))) ≡ true
    by Active e = refl
    by (Waiting q m) e = cc
    by Condemned e = cc

restatus_ready : (o : Option Txn) → is_ready (status_in (restatus Active o)) ≡ true
restatus_ready None = refl
restatus_ready (Some x) = refl

settled_ready : (d : Detect) (c : Victims) (s s' : State) (u t : ℕ) → WaitSettles d c s u s' → WaitsWell s t → is_ready (status_of s t) ≡ true
    → is_ready (status_of s' t) ≡ true
settled_ready d c s s' u t settles well ready =
    ⊎_elim (λ absent. absent_ready (s'.txns t) ((wait_settles_goes_on d c s s' u t settles).turn.there ∙ absent))
    (λ active. ap is_ready ((wait_settles_follows d c s u s' t settles well).active active)) (ready_is (s.txns t) ready)

unnamed : (b : Bool) → (b && true) ≡ false → b ≡ false
unnamed true h = h
unnamed false h = refl

never_waits : (b : Bool) → (b && false) ≡ false
never_waits true = refl
never_waits false = refl

module _ (s : State) (law : IsLawful s) (t : ℕ) where
  abbrev self : TxnId
  self = record { slot = t; age = age_in (s.txns t) }

  module _ (next : State) where
    abbrev Ready : Type 0
    Ready = is_ready (status_of next t) ≡ true

    left : (made : State) → next ≡ made → is_ready (status_of made t) ≡ true → Ready
    left made is h = ap (λ (x : State). is_ready (status_of x t)) is ∙ h

    -- the end of u
    abbrev end_of : ℕ → Bool → Option Txn
    end_of u b = woken (granted_at (stripped s u) (λ q. holds (members s q) u || is_waiting_at s u q)) t (if b then None else s.txns t)

    -- its transaction ends
    gone : (u : ℕ) → (t == u) ≡ true → next ≡ released s u → Ready
    gone u e is = left _ is (ap (λ b. is_ready (status_in (end_of u b))) e)

    module _ (ready : is_ready (status_of s t) ≡ true) where
      begun : (u age since : ℕ) → next ≡ begun_at s u age since → Ready
      begun u age since is =
          left _ is
          (split (t == u) (λ e. ap (λ b. is_ready (status_in (if b then Some (record { age = age; since = since; status = Active }) else s.txns t))) e)
          (λ e. ap (λ b. is_ready (status_in (if b then Some (record { age = age; since = since; status = Active }) else s.txns t))) e ∙ ready))

      ended : (u : ℕ) → is_ready (status_of (without_wait s u Active) t) ≡ true
      ended u =
          split (t == u) (λ e. ap (λ b. is_ready (status_in (if b then restatus Active (s.txns u) else s.txns t))) e ∙ restatus_ready (s.txns u))
          (λ e. ap (λ b. is_ready (status_in (if b then restatus Active (s.txns u) else s.txns t))) e ∙ ready)

      -- another's lock
      locked_on : (u : TxnId) (q : NodeId) (m : Mode) → u.slot ≢ t → Locks s u.slot q m next → Ready
      locked_on u q m ne locks =
          split (enters_at s u.slot q m) (λ e. left _ (locks.at_once e) ready)
          (λ e. let x : State = enqueued s u.slot q (wanted s u.slot q m) in
          let f = enqueued_follows s u.slot t q (wanted s u.slot q m) ne (lawful_waits s law t) in
          settled_ready s.detect s.victims x next u.slot t (locks.waits e) f.well
          (ap (λ b. is_ready (status_in (if b then restatus (Waiting q (wanted s u.slot q m)) (s.txns u.slot) else s.txns t)))
          (number_other t u.slot (λ same. ne (sym same))) ∙ ready))

      others : (u : TxnId) → lives s u ≡ true → same_txn self u ≡ false → u.slot ≢ t
      others u alive unnamed =
          ⊎_elim (λ absent same. clash (txn_there u.age (s.txns u.slot) alive) (ap (λ v. is_some (s.txns v)) same ∙ absent))
          (λ active. differ s self u (itself (s.txns t) (active_there (s.txns t) active)) alive unnamed) (ready_is (s.txns t) ready)

      released_on : (u : ℕ) → next ≡ released s u → Ready
      released_on u is =
          split (t == u) (λ e. gone u e is)
          (λ e. left _ is (ap (λ b. is_ready (status_in (end_of u b))) e
          ∙ woken_ready (granted_at (stripped s u) (λ q. holds (members s q) u || is_waiting_at s u q)) t (s.txns t) ready))

      pumped_on : (made : State) (chosen : NodeId → Bool) → next ≡ pumped made chosen → is_ready (status_of made t) ≡ true → Ready
      pumped_on made chosen is h = left _ is (woken_ready (granted_at made chosen) t (made.txns t) h)

      freed_on : (keeps : ℕ → Bool) (q : NodeId) → is_ready (status_in (freed_unless keeps q t (s.txns t))) ≡ true
      freed_on keeps q = by (keeps t)
        where
          by : (b : Bool) → is_ready (status_in (if b then s.txns t else freed_among (λ x. same_node x q) (s.txns t))) ≡ true
          by true = ready
          by false = freed_ready (λ x. same_node x q) (s.txns t) ready

      stays_ready : (c : Command) (a : Answer) (told : Told) → (names self c && may_wait c) ≡ false → refusal_of s c ≡ None → Accepts s c a told next → Ready
      stays_ready (command.Inner ps) a told r free acc = left _ acc.4 ready
      stays_ready (command.File ps) a told r free acc = left _ acc.4 ready
      stays_ready (command.Index ps f bs) a told r free acc = left _ acc.4 ready
      stays_ready command.Begin a told r free acc = begun _ _ _ acc.4
      stays_ready (command.BeginAgain since) a told r free acc = begun _ _ _ acc.4
      stays_ready (command.Join u since) a told r free acc = begun _ _ _ acc.2
      stays_ready (command.Lock u q m) a told r free acc =
          locked_on u q m (others u (txn_lives s u (all_none (tests_of s (command.Lock u q m)) free).1.0) (unnamed _ r)) acc.0
      stays_ready (command.Try u q m) a told r free acc = left _ acc.2 ready
      stays_ready (command.Unlock u q) a told r free acc = pumped_on _ _ acc.2 ready
      stays_ready (command.Escalate u q) a told r free acc = pumped_on _ _ acc.2 ready
      stays_ready (command.Cancel u) a told r free acc = pumped_on _ _ acc.2 (ended u.slot)
      stays_ready (command.Commit u) a told r free acc = released_on u.slot acc.2
      stays_ready (command.Renew u since) a told r free acc = begun _ _ _ acc.2
      stays_ready (command.Abort u) a told r free acc = released_on u.slot acc.2
      stays_ready (command.Settle u) a told r free acc =
          settled_ready AtBlock s.victims s next u.slot t acc.2 (lawful_waits s law t) ready
      stays_ready (command.Insert u f keys) a told r free acc = left _ acc.4 ready
      stays_ready (command.Delete u q) a told r free acc = left _ acc.2 (freed_ready (λ x. same_node x q) (s.txns t) ready)
      stays_ready (command.Rekey u q i key) a told r free acc =
          left _ acc.2 (freed_on (λ v. is_among_waiters v (filter (stays s (rekeyed_parents s.graph q i key)) (s.queue q))) q)
      stays_ready (command.Move u q ps) a told r free acc =
          left _ acc.2 (freed_on (λ v. is_among_waiters v (filter (stays s ps.now) (s.queue q))) q)
      stays_ready (command.Group q) a told r free acc = absurd acc
      stays_ready (command.Held u q) a told r free acc = absurd acc
      stays_ready (command.Effective u q) a told r free acc = absurd acc
      stays_ready (command.Adopt f keys) a told r free acc = left _ acc.4 ready
      stays_ready (command.Forget q) a told r free acc = left _ acc.2 ready
      stays_ready (command.Drop u q) a told r free acc = left _ acc.2 (freed_ready (goes_with s.graph q) (s.txns t) ready)
      stays_ready (command.IndexBy u ps f bs rs ks) a told r free acc = left _ acc.4 ready
      stays_ready (command.Split u i bound) a told r free acc = left _ acc.4 (freed_ready (λ x. same_node x i) (s.txns t) ready)
      stays_ready (command.Merge u i) a told r free acc =
          left _ acc.2 (freed_ready (λ x. same_node x (next_interval s.graph i)) (s.txns t) ready)

    own : (u : TxnId) → same_txn self u ≡ true → status_of s u.slot ≡ Some Active → is_ready (status_of s t) ≡ true
    own u named active =
        ap is_ready (subst (λ v. status_of s v ≡ Some Active) (sym (same_number t u.slot (and_both (t == u.slot) (self.age == u.age) named).0)) active)

    -- who releases was active, or ends
    releaser_ready : (c : Command) (a : Answer) (told : Told) → names self c ≡ true → releases c ≡ true → refusal_of s c ≡ None
        → Accepts s c a told next → Ready
    releaser_ready (command.Unlock u q) a told named r free acc =
        stays_ready (own u named (active_after s u q (worn s) _ free).0) (command.Unlock u q) a told (never_waits _) free acc
    releaser_ready (command.Escalate u q) a told named r free acc =
        stays_ready (own u named (active_after s u q (worn s) _ free).0) (command.Escalate u q) a told (never_waits _) free acc
    releaser_ready (command.Delete u q) a told named r free acc =
        stays_ready (own u named (active_after s u q (worn s) _ free).0) (command.Delete u q) a told (never_waits _) free acc
    releaser_ready (command.Drop u q) a told named r free acc =
        stays_ready (own u named (active_after s u q (worn s) _ free).0) (command.Drop u q) a told (never_waits _) free acc
    releaser_ready (command.Merge u i) a told named r free acc =
        stays_ready (own u named (active_after s u i (worn s) _ free).0) (command.Merge u i) a told (never_waits _) free acc
    releaser_ready (command.Commit u) a told named r free acc = gone u.slot (and_both _ _ named).0 acc.2
    releaser_ready (command.Abort u) a told named r free acc = gone u.slot (and_both _ _ named).0 acc.2
    releaser_ready c a told named r free acc = absurd (no r)

-- Steps of the main manager.

module _ (main : Part) (c : Command) (main' : Part) (law : IsLawful main.state) (takes : Takes main c main') (t : ℕ) where
  -- another's grants are kept, and so are its own, if the command does not release
  none_falls : (names (txn_at main t) c && releases c) ≡ false → (k : NodeId) → is_at_least (main'.state.held t k) (main.state.held t k) ≡ true
  none_falls unless k =
      split (releases c)
      (λ r. split (is_some (main.state.txns t))
      (λ there. (over_of_step main.state main'.state (txn_at main t) takes.told (is_of_rows c)
      (step_keeps main.state law (txn_at main t) (itself (main.state.txns t) there) takes.answer takes.told main'.state
      (taken_lawful main c main' takes law) c (not_true _ (λ y. clash r (sym (ap (λ b. b && releases c) y) ∙ unless))) takes.step)).held_more k)
      (λ gone. ap (is_at_least (main'.state.held t k)) (nl_is (main.state.held t k) (not_true _ (λ h. clash (law.grants_live t k h).0 gone)))))
      (λ r. each_step (NoneFalls main.state law t) main.state c takes.answer takes.told main'.state (λ n. at_least-refl (main.state.held t n)) (λ next h. h)
      (λ free next acc. kept main.state law t next c takes.answer takes.told r free acc) takes.step k)

  ready_on : (names (txn_at main t) c && may_wait c) ≡ false → is_ready (status_of main.state t) ≡ true → is_ready (status_of main'.state t) ≡ true
  ready_on unless ready =
      each_step (λ x. is_ready (status_of x t) ≡ true) main.state c takes.answer takes.told main'.state ready (λ next h. h)
      (λ free next acc. stays_ready main.state law t next ready c takes.answer takes.told unless free acc) takes.step

pub others_stay_covered : OthersStayCovered
others_stay_covered main p c main' n t law takes same unless over =
    cases_of (main.name n)
    (λ e. ap (λ o. is_at_least (held_by_name (main'.state.held t) o) (held_at p t n)) (same ∙ e)
    ∙ sym (ap (λ o. is_at_least (held_by_name (main.state.held t) o) (held_at p t n)) e) ∙ over)
    (λ k e. ap (λ o. is_at_least (held_by_name (main'.state.held t) o) (held_at p t n)) (same ∙ e)
    ∙ at_least-transitive (main'.state.held t k) (main.state.held t k) (held_at p t n) (none_falls main c main' law takes t unless k)
    (sym (ap (λ o. is_at_least (held_by_name (main.state.held t) o) (held_at p t n)) e) ∙ over))

pub main_steps_can_copy : MainStepsCanCopy
main_steps_can_copy main f c main' law takes alike covered can n t here' ahead =
    split (is_in n f.part)
    (λ there. by (alike n there) (ap is_some (sym (alike n there)) ∙ here'))
    (λ out. clash (out_covered main' f.part t n out) ahead)
  where
    by : KeepsName n main main' → is_in n main ≡ true → is_ready (status_of main'.state t) ≡ true
    by named here =
        split (names (txn_at main t) c && may_wait c) (λ waits. covered n t here waits ahead)
        (λ unless. split (covers main f.part t n)
        (λ over. split (names (txn_at main t) c && releases c) (λ its. let it = and_both (names (txn_at main t) c) (releases c) its in fell it.0 it.1 over)
        (λ keeps. clash (others_stay_covered main f.part c main' n t law takes named keeps over) ahead))
        (λ less. ready_on main c main' law takes t unless (can n t here less)))
      where
        fell : names (txn_at main t) c ≡ true → releases c ≡ true → covers main f.part t n ≡ true → is_ready (status_of main'.state t) ≡ true
        fell its r over =
            each_step
            (λ x. is_at_least (held_by_name (x.held t) (main'.name n)) (held_at f.part t n) ≡ false → is_ready (status_of x t) ≡ true) main.state c takes.answer
            takes.told main'.state
            (λ out. clash over (sym (ap (λ o. is_at_least (held_by_name (main.state.held t) o) (held_at f.part t n)) named) ∙ out)) (λ next h. h)
            (λ free next acc out. releaser_ready main.state law t next c takes.answer takes.told its r free acc) takes.step ahead
