-- An active transaction that a run does not name stays as it is, and is waited for anew only by those whose requests are left waiting.
use Rattle.gl_fairness.proofs.Words.{◌+◌, ◌==◌, [], ◌||◌, ◌∙◌, ◌∷◌, ◌≡◌, ◌≢◌, ◌⊎◌, ⊎_elim, Accepts, Active, ahead_is, ahead_second, Answer, ap, are_compatible}
use Rattle.gl_fairness.proofs.Words.{Begins, Bool, clash, Command, each_step, enqueued, enters_at, false, filter, freed, freed_among, freed_unless, goes_with}
use Rattle.gl_fairness.proofs.Words.{if◌then◌else◌, inl, inr, is_ahead, is_among_waiters, IsLawful, list_any, Locks, min, Mode, NodeId, None, none_among, not}
use Rattle.gl_graph.specs.Splits.{next_interval}
use Rattle.gl_fairness.proofs.Words.{Option, or_elim, or_left, or_right, refl, rekeyed_parents, same_node, Some, split, State, status_in, status_of, stays}
use Rattle.gl_fairness.proofs.Words.{Step, steps_keep_law, subst, sym, tests_of, Told, true, Txn, TxnId, Waiting, waits_for, wanted, ℕ}
use Rattle.gl_modes.proofs.Words.{other_number}
use Rattle.gl_graph.proofs.Unrefused.{or_no}
use Rattle.gl_model.specs.Calls.{joining_age, no_txn}
use Rattle.gl_model.specs.State.{waits_at}
use Rattle.gl_model.proofs.law.Edges.{is_step, step_is}
use Rattle.gl_model.proofs.law.Keeps.{apart}
use Rattle.gl_model.proofs.telling.Follows.{Follows, follows_trans, lawful_waits, SameGrants, WaitsWell}
use Rattle.gl_steps.specs.declared.command.Answer.TheVariants as answer
use Rattle.gl_steps.specs.declared.command.Command.TheVariants as command
use Rattle.gl_steps.specs.Promises.{is_of_rows, names, same_txn}
use Rattle.gl_steps.proofs.GrantCommands.{free_differs, joining_differs}
use Rattle.gl_steps.proofs.Keeps.{Keeps, ToldGrant}
use Rattle.gl_steps.proofs.NotRefused.{differ, txn_lives}
use Rattle.gl_steps.proofs.OneStep.{all_none, AllNone, step_keeps}
use Rattle.gl_steps.proofs.OtherChanges.{begun_other, cancelled_follows, enqueued_follows, escalated_follows, released_follows, settled_follows}
use Rattle.gl_steps.proofs.OtherChanges.{unlocked_follows, wait_settles_follows, with_grant_follows}
use Rattle.gl_steps.proofs.WaitsBegin.{begins_waits}
use Rattle.gl_fairness.specs.Aside.{is_left_waiting, IsActive, LeavesAside, some_left_waiting, StaysAside}

-- another's lock, and the victims of its wait
lock_follows : (s : State) → IsLawful s → (next : State) (v u : ℕ) (q : NodeId) (w : Mode) → v ≢ u → Locks s v q w next → Follows s next u
lock_follows s law next v u q w ne locks =
    split (enters_at s v q w)
    (λ e. subst (λ x. Follows s x u) (sym (locks.at_once e)) (with_grant_follows s v u q (wanted s v q w) ne well))
    (λ e. let x : State = enqueued s v q (wanted s v q w) in
    let f = enqueued_follows s v u q (wanted s v q w) ne well in
    follows_trans s x next u f (wait_settles_follows s.detect s.victims x v next u (locks.waits e) f.well))
  where
    well : WaitsWell s u
    well = lawful_waits s law u

-- Who waits after a step waited before it, or the step left its request waiting.

module _ (s : State) (law : IsLawful s) (u : ℕ) (n : NodeId) (m : Mode) where
  abbrev Began : Command → Answer → State → Type 0
  Began c a x = status_of x u ≡ Some (Waiting n m) → (status_of s u ≡ Some (Waiting n m)) ⊎ (is_left_waiting u c a ≡ true)

  -- a lock alone is answered with a wait, and it is that of its own transaction
  answered : (a : Answer) (list : Told) (next : State) → a ≡ answer.Waiting → (c : Command) → Accepts s c a list next → Began c a next
  answered a list next is (command.Lock v q w) acc waits =
      split (v.slot == u) (λ e. inr (ap (is_left_waiting u (command.Lock v q w)) is ∙ e))
      (λ e. inl ((lock_follows s law next v.slot u q w (other_number v.slot u e) acc.0).was_waiting n m waits))
  answered a list next is (command.Group q) acc waits = absurd acc
  answered a list next is (command.Held v q) acc waits = absurd acc
  answered a list next is (command.Effective v q) acc waits = absurd acc
  answered a list next is c acc waits = absurd (cc)

  pub begins_left : (s' : State) (c : Command) (a : Answer) (told : Told) → Step s c a told s' → Began c a s'
  begins_left s' c a told step waits =
      ⊎_elim (λ was. inl was)
      (λ is. each_step (Began c a) s c a told s' (λ w. inl w) (λ next h. h) (λ free next acc. answered a told next is c acc) step waits)
      (begins_waits s s' c a told u n m step waits)

-- An active transaction stays active.

-- others remove nodes, with the waits on them
freed_active : (goes : NodeId → Bool) (x : Option Txn) → status_in x ≡ Some Active → status_in (freed_among goes x) ≡ Some Active
freed_active goes None h = h
freed_active goes (Some x) h = let e : x.status ≡ Active = cc in ap (λ st. Some (none_among goes st)) e

-- others move a node, and the waits that fail the rule end
unless_active : (keeps : ℕ → Bool) (n : NodeId) (u : ℕ) (x : Option Txn) → status_in x ≡ Some Active → status_in (freed_unless keeps n u x) ≡ Some Active
unless_active keeps n u x h = by (keeps u)
  where
    by : (b : Bool) → status_in (if b then x else freed n x) ≡ Some Active
    by true = h
    by false = freed_active (λ q. same_node q n) x h

module _ (s : State) (law : IsLawful s) (t : TxnId) (active : IsActive s t) (a : Answer) (list : Told) (next : State) where
  abbrev Stays : State → Type 0
  Stays x = status_of x t.slot ≡ Some Active

  is : (made : State) → next ≡ made → Stays made → Stays next
  is made e h = ap (λ (x : State). status_of x t.slot) e ∙ h

  unmoved : (made : State) → next ≡ made → made.txns t.slot ≡ s.txns t.slot → Stays next
  unmoved made e same = is made e (ap status_in same ∙ active.1)

  well : WaitsWell s t.slot
  well = lawful_waits s law t.slot

  -- another that lives has another slot
  other_slot : (u : TxnId) → same_txn t u ≡ false → no_txn s u ≡ None → u.slot ≢ t.slot
  other_slot u apart passed = differ s t u active.0 (txn_lives s u passed) apart

  -- one that begins has a free slot
  begins : (since : ℕ) → Begins since s a list next → Stays next
  begins since acc = unmoved _ acc.4 (begun_other s acc.0 (s.begins + 1) since t.slot (free_differs s t active.0 acc.0 acc.1))

  -- the last case is that of commands that make a node
  accepted : (c : Command) → names t c ≡ false → AllNone (tests_of s c) → Accepts s c a list next → Stays next
  accepted command.Begin free passed acc = begins (s.begins + 1) acc
  accepted (command.BeginAgain since) free passed acc = begins (min since (s.begins + 1)) acc
  accepted (command.Join u since) free passed acc =
      unmoved _ acc.2 (begun_other s u (joining_age s since) since t.slot (joining_differs s t active.0 u passed.1.1.0))
  accepted (command.Lock u q w) free passed acc = (lock_follows s law next u.slot t.slot q w (other_slot u free passed.1.0) acc.0).active active.1
  accepted (command.Try u q w) free passed acc = unmoved _ acc.2 refl
  accepted (command.Unlock u q) free passed acc = is _ acc.2 ((unlocked_follows s u.slot t.slot q (other_slot u free passed.1.0) well).active active.1)
  accepted (command.Escalate u q) free passed acc = is _ acc.2 ((escalated_follows s u.slot t.slot q (other_slot u free passed.1.0) well).active active.1)
  accepted (command.Cancel u) free passed acc = is _ acc.2 ((cancelled_follows s u.slot t.slot (other_slot u free passed.1.0) well).active active.1)
  accepted (command.Commit u) free passed acc = is _ acc.2 ((released_follows s u.slot t.slot (other_slot u free passed.1.0) well).active active.1)
  accepted (command.Renew u since) free passed acc =
      unmoved _ acc.2 (begun_other s u.slot (s.begins + 1) (min since (s.begins + 1)) t.slot (other_slot u free passed.1.0))
  accepted (command.Abort u) free passed acc = is _ acc.2 ((released_follows s u.slot t.slot (other_slot u free passed.1.0) well).active active.1)
  accepted (command.Settle u) free passed acc = (settled_follows s.victims s u.slot next t.slot acc.2 well).active active.1
  accepted (command.Delete u r) free passed acc = is _ acc.2 (freed_active (λ q. same_node q r) (s.txns t.slot) active.1)
  accepted (command.Rekey u r i k) free passed acc =
      is _ acc.2 (unless_active (λ v. is_among_waiters v (filter (stays s (rekeyed_parents s.graph r i k)) (s.queue r))) r t.slot (s.txns t.slot) active.1)
  accepted (command.Move u x ps) free passed acc =
      is _ acc.2 (unless_active (λ v. is_among_waiters v (filter (stays s ps.now) (s.queue x))) x t.slot (s.txns t.slot) active.1)
  accepted (command.Group q) free passed acc = absurd acc
  accepted (command.Held u q) free passed acc = absurd acc
  accepted (command.Effective u q) free passed acc = absurd acc
  accepted (command.Forget r) free passed acc = unmoved _ acc.2 refl
  accepted (command.Drop u x) free passed acc = is _ acc.2 (freed_active (goes_with s.graph x) (s.txns t.slot) active.1)
  accepted (command.Split u i bound) free passed acc = is _ acc.4 (freed_active (λ q. same_node q i) (s.txns t.slot) active.1)
  accepted (command.Merge u i) free passed acc = is _ acc.2 (freed_active (λ q. same_node q (next_interval s.graph i)) (s.txns t.slot) active.1)
  accepted c free passed acc = unmoved _ acc.4 refl

-- so over each step that does not name it
stays_active : (s s' : State) (c : Command) (a : Answer) (told : Told) (t : TxnId) → IsLawful s → Step s c a told s' → IsActive s t → names t c ≡ false
    → status_of s' t.slot ≡ Some Active
stays_active s s' c a told t law step active free =
    each_step (λ (x : State). status_of x t.slot ≡ Some Active) s c a told s' active.1 (λ next h. h)
    (λ none next acc. accepted s law t active a told next c free (all_none (tests_of s c) none) acc) step

-- One step, and a run.

-- it holds the same and stands in no queue, so who waits for it waits for a lock that it held before
pub step_aside : (s s' : State) (c : Command) (a : Answer) (told : Told) (t : TxnId) → IsLawful s → Step s c a told s' → IsActive s t → names t c ≡ false
    → StaysAside s s' t (λ u. is_left_waiting u c a)
step_aside s s' c a told t law step active free = record { active = (kept.alive, still); held = held; waited = waited }
  where
    law' : IsLawful s'
    law' = steps_keep_law s s' c a told law step

    kept : Keeps s s' t told (is_of_rows c)
    kept = step_keeps s law t active.0 a told s' law' c free step

    still : status_of s' t.slot ≡ Some Active
    still = stays_active s s' c a told t law step active free

    -- a grant would be of a wait
    held : SameGrants s s' t.slot
    held = ⊎_elim (λ same. same) (λ (got : ToldGrant s s' t told). absurd (apart (sym active.1 ∙ got.0.was))) kept.grants

    -- it is in no queue
    not_ahead : (n : NodeId) (u : ℕ) → is_ahead (s'.queue n) u t.slot ≡ true → ⊥
    not_ahead n u h =
        clash (law'.waits_are t.slot n (ahead_second (s'.queue n) u t.slot (sym (ahead_is (s'.queue n) u t.slot) ∙ h))) (ap (λ o. waits_at o n) still)

    waited : (u : ℕ) → waits_for s' u t.slot ≡ true → (waits_for s u t.slot ≡ true) ⊎ (is_left_waiting u c a ≡ true)
    waited u h =
        let st = step_is s' u t.slot h in let n = st.0 in let m = st.1 in
        ⊎_elim
        (λ was. inl (is_step s u t.slot n m (record {
          differ = st.2.differ;
          waits = was;
          blocked = or_elim _ _ st.2.blocked (λ b. or_left _ _ (ap (λ x. not (are_compatible m x)) (sym (held n)) ∙ b)) (λ b. absurd (not_ahead n u b));
        })))
        (λ left. inr left) (begins_left s law u n m s' c a told step st.2.waits)

-- one run and then another
aside_trans : (s mid s' : State) (t : TxnId) (f g : ℕ → Bool) → StaysAside s mid t f → StaysAside mid s' t g → StaysAside s s' t (λ u. f u || g u)
aside_trans s mid s' t f g a b = record {
  active = b.active;
  held = λ n. b.held n ∙ a.held n;
  waited = λ u h. ⊎_elim (λ w. ⊎_elim (λ v. inl v) (λ k. inr (or_left (f u) (g u) k)) (a.waited u w)) (λ k. inr (or_right (f u) (g u) k)) (b.waited u h);
}

-- step by step, since each state of the run is lawful
pub leaves_aside : LeavesAside
leaves_aside s s' [] [] t law run active free =
    subst (λ x. StaysAside s x t (λ u. false)) (sym run) (record { active = active; held = λ n. refl; waited = λ u h. inl h })
leaves_aside s s' [] (r ∷ rs) t law run active free = absurd run
leaves_aside s s' (c ∷ cs) [] t law run active free = absurd run
leaves_aside s s' (c ∷ cs) (r ∷ rs) t law run active free =
    let parts = or_no (names t c) (list_any (names t) cs) free in
    let first = step_aside s run.0 c r.0 r.1 t law run.1 active parts.0 in
    aside_trans s run.0 s' t (λ u. is_left_waiting u c r.0) (λ u. some_left_waiting u cs rs) first
    (leaves_aside run.0 s' cs rs t (steps_keep_law s run.0 c r.0 r.1 law run.1) run.2 first.active parts.1)
