-- Each command leaves those before a wait that continues: nobody new, and nobody that holds less.
use Rattle.std.specs.Prelude.{◌≡◌, ◌≢◌, ℕ, zero, suc, ◌+◌, ◌≤◌, Bool, true, false, List, [], ◌∷◌, None, Some, if◌then◌else◌}
use Rattle.std.specs.List.{filter}
use Rattle.std.proofs.Common.{refl, sym, ap, arith, subst, ◌∙◌}
use Rattle.gl_modes.proofs.Words.{and_both, clash, none_some, or_elim, or_left, or_right, split}
use Rattle.gl_modes.proofs.ModeLemmas.{at_least-refl, supremum-above}
use Rattle.gl_modes.proofs.NodeLemmas.{same_node-equal}
use Rattle.gl_modes.specs.declared.mode.Mode.{Mode}
use Rattle.gl_modes.specs.declared.mode.Mode.TheVariants.{NL, X}
use Rattle.gl_modes.specs.declared.node.NodeId.{NodeId}
use Rattle.gl_modes.specs.declared.refusal.Refusal.TheVariants as no
use Rattle.gl_modes.specs.Nodes.{same_node}
use Rattle.gl_graph.specs.Graph.{Graph}
use Rattle.gl_graph.proofs.Born.{old_below}
use Rattle.gl_graph.proofs.Unrefused.{not_false, test_fails}
use Rattle.gl_header.specs.Header.{Waiter, holds, is_ahead, is_among_waiters, is_empty}
use Rattle.gl_waits.specs.declared.victims.Victims.{Victims}
use Rattle.gl_model.specs.declared.answers.Detect.{Detect}
use Rattle.gl_model.specs.declared.answers.Detect.TheVariants.{AtBlock, ByWatcher}
use Rattle.gl_model.specs.declared.txn.Status.TheVariants.{Active, Condemned, Waiting}
use Rattle.gl_model.specs.declared.txn.TxnId.{TxnId}
use Rattle.gl_model.specs.Calls.{Locks, WaitSettles, asked_by_escalation, departed, enqueued, enters_at, freed, granted, is_covered, moved_to, raised}
use Rattle.gl_model.specs.Calls.{stays, waiting_test, wanted}
use Rattle.gl_model.specs.Lawful.{IsLawful}
use Rattle.gl_model.specs.Splits.{split_by}
use Rattle.gl_model.specs.State.{Settled, SettledWithin, State, condemned, is_waiting_at, members, status_of, with_grant, with_graph}
use Rattle.gl_model.specs.Tellings.{Told}
use Rattle.gl_model.proofs.law.Departures.{still_waits_among}
use Rattle.gl_model.proofs.law.Keeps.{waiting_is}
use Rattle.gl_model.proofs.law.Lock.{may_lock, unlocked-less, waiting-lawful}
use Rattle.gl_model.proofs.law.Takes.{at_all, condemned-lawful, released-less, without_wait-less}
use Rattle.gl_model.proofs.law.Tests.{raised-lawful, shed-less}
use Rattle.gl_steps.specs.declared.command.Answer.{Answer}
use Rattle.gl_steps.specs.declared.command.Command.{Command}
use Rattle.gl_steps.specs.declared.command.Command.TheVariants as command
use Rattle.gl_steps.specs.Promises.{waits_on}
use Rattle.gl_steps.specs.Step.{Step}
use Rattle.gl_steps.specs.Tests.{refusal_of, tests_of, worn}
use Rattle.gl_steps.proofs.Changes.{Change, change_of}
use Rattle.gl_steps.proofs.Changes as change
use Rattle.gl_steps.proofs.EachStep.{each_step}
use Rattle.gl_steps.proofs.LivesOn.{settled_goes_on}
use Rattle.gl_steps.proofs.NotRefused.{active_is, nodes_live}
use Rattle.gl_steps.proofs.OneStep.{all_none}
use Rattle.gl_fairness.proofs.Before.{KeepsBefore, before_enqueued, before_filtered, before_granted, before_same, before_taken, before_trans, stands_in}

-- a wait that continues while others are settled
settled_within_before : (c : Victims) (k : ℕ) (s s' : State) (u t : ℕ) (n : NodeId) (m : Mode) → IsLawful s → status_of s' t ≡ Some (Waiting n m)
    → SettledWithin c k s u s' → KeepsBefore s s' t n
settled_within_before c zero s s' u t n m law waits h =
    subst (λ x. KeepsBefore s x t n) (sym h.1) (before_same s s t n (λ v. refl) refl refl)
settled_within_before c (suc k) s s' u t n m law waits h =
    let mid = condemned s h.0 in
    before_trans s mid s' t n
    (before_taken s law s.held _ _ (is_waiting_at s h.0) (without_wait-less s law h.0 Condemned (λ q w e. cc)) t n m
    ((settled_goes_on c mid s' u t (k, h.2)).waits n m waits))
    (settled_within_before c k mid s' u t n m (condemned-lawful s law h.0) waits h.2)

settled_before : (c : Victims) (s s' : State) (u t : ℕ) (n : NodeId) (m : Mode) → IsLawful s → status_of s' t ≡ Some (Waiting n m) → Settled c s u s'
    → KeepsBefore s s' t n
settled_before c s s' u t n m law waits h = settled_within_before c h.0 s s' u t n m law waits h.1

wait_settles_before : (d : Detect) (c : Victims) (s s' : State) (u t : ℕ) (n : NodeId) (m : Mode) → IsLawful s → status_of s' t ≡ Some (Waiting n m)
    → WaitSettles d c s u s' → KeepsBefore s s' t n
wait_settles_before AtBlock c s s' u t n m law waits h = settled_before c s s' u t n m law waits h
wait_settles_before ByWatcher c s s' u t n m law waits h = subst (λ x. KeepsBefore s x t n) (sym h) (before_same s s t n (λ v. refl) refl refl)

-- nobody is in an empty queue
none_in : (t : ℕ) (q : List Waiter) → is_empty q ≡ true → is_among_waiters t q ≡ true → ⊥
none_in t [] h k = clash k refl
none_in t (w ∷ q) h k = clash h refl

-- nodes are removed from the graph, though not the node of a wait that continues
before_departed : (s : State) (goes : NodeId → Bool) (g : Graph) (t : ℕ) (n : NodeId) (m : Mode) → status_of (departed s goes g) t ≡ Some (Waiting n m)
    → KeepsBefore s (departed s goes g) t n
before_departed s goes g t n m waits =
    let off = (still_waits_among goes n m (s.txns t) waits).1 in
    before_same s (departed s goes g) t n (λ u. ap (λ b. if b then NL else s.held u n) off) (ap (λ b. if b then [] else s.queue n) off) refl

-- a node moves
before_moved : (s : State) → IsLawful s → (r : NodeId) (ps : List NodeId) (g : Graph) (t : ℕ) (n : NodeId) (m : Mode) → status_of s t ≡ Some (Waiting n m)
    → KeepsBefore s (moved_to s r ps g) t n
before_moved s law r ps g t n m waits = record {
  stood = λ u ne h. or_elim _ _ h (λ k. or_left _ _ k) (λ k. or_right (holds (members s n) u) _ (in_queue u (same_node n r) k));
  no_less = λ u ne h. at_least-refl (s.held u n);
  most = refl;
}
  where
    in_queue : (u : ℕ) (b : Bool) → is_ahead (if b then filter (stays s ps) (s.queue n) else s.queue n) t u ≡ true → is_ahead (s.queue n) t u ≡ true
    in_queue u true k = before_filtered s law ps t n m waits u k
    in_queue u false k = k

module _ (s : State) (law : IsLawful s) (t : ℕ) (n : NodeId) (m : Mode) (waits : status_of s t ≡ Some (Waiting n m)) where
  in_queue : is_among_waiters t (s.queue n) ≡ true
  in_queue = stands_in s law t n m waits

  -- one that is granted at once on a node with a waiter is a holder
  before_at_once : (u : ℕ) (q : NodeId) (w : Mode) → enters_at s u q w ≡ true → KeepsBefore s (granted s u q w) t n
  before_at_once u q w e = before_granted s u q (wanted s u q w) t n
      (λ same. or_elim _ _ (and_both _ _ e).1 (λ h. h) (λ h. absurd (none_in t (s.queue q) h
      (ap (λ p. is_among_waiters t (s.queue p)) (sym (same_node-equal n q same)) ∙ in_queue)))) (λ same. supremum-above (s.held u q) w)

  -- a new node is not the node of a wait
  new_apart : (x : NodeId) → x.birth ≡ s.graph.births + 1 → same_node n x ≡ true → ⊥
  new_apart x birth e =
      let old : n.birth ≤ s.graph.births = old_below s.graph law.graph [] n (law.waits_live t n in_queue) in
      let same : n.birth ≡ x.birth = ap (λ (p : NodeId). p.birth) (same_node-equal n x e) in
      absurd (omega arith)

  before_new : (g : Graph) (x : NodeId) → x.birth ≡ s.graph.births + 1 → (u : ℕ) → KeepsBefore s (with_grant (with_graph s g) u x X) t n
  before_new g x birth u =
      before_trans s (with_graph s g) (with_grant (with_graph s g) u x X) t n (before_same s (with_graph s g) t n (λ v. refl) refl refl)
      (before_granted (with_graph s g) u x X t n (λ e. absurd (new_apart x birth e)) (λ e. absurd (new_apart x birth e)))

  -- nor is an interval that is split the node of a wait that continues
  before_parted : (i x : NodeId) (g : Graph) (u : ℕ) (w : Mode) → x.birth ≡ s.graph.births + 1 → status_of (split_by s u i g x) t ≡ Some (Waiting n w)
      → KeepsBefore s (split_by s u i g x) t n
  before_parted i x g u w birth still =
      let mid : State = record s { graph = g; queue = λ q. if same_node q i then [] else s.queue q; txns = λ v. freed i (s.txns v) } in
      let off = (still_waits_among (λ q. same_node q i) n w (s.txns t) still).1 in
      before_trans s mid (split_by s u i g x) t n (before_same s mid t n (λ v. refl) (ap (λ b. if b then [] else s.queue n) off) refl)
      (before_granted mid u x X t n (λ e. absurd (new_apart x birth e)) (λ e. absurd (new_apart x birth e)))

module _ (s : State) (law : IsLawful s) (t : TxnId) (n : NodeId) (m : Mode) (waits : status_of s t.slot ≡ Some (Waiting n m)) (a : Answer)
    (next : State) (w : Mode) (still : status_of next t.slot ≡ Some (Waiting n w)) where
  abbrev Kept : Type 0
  Kept = KeepsBefore s next t.slot n

  made_is : (made : State) → next ≡ made → (status_of made t.slot ≡ Some (Waiting n w) → KeepsBefore s made t.slot n) → Kept
  made_is made e f = subst (λ x. KeepsBefore s x t.slot n) (sym e) (f (ap (λ x. status_of x t.slot) (sym e) ∙ still))

  -- an active transaction has another slot
  other_active : (u : TxnId) → waiting_test (status_of s u.slot) ≡ None → u.slot ≢ t.slot
  other_active u passed e = none_some (sym passed ∙ ap (λ v. waiting_test (status_of s v)) e ∙ ap waiting_test waits)

  locked : (u : TxnId) (q : NodeId) (mode : Mode) → refusal_of s (command.Lock u q mode) ≡ None → Locks s u.slot q mode next → Kept
  locked u q mode free locks = split (enters_at s u.slot q mode)
      (λ e. made_is _ (locks.at_once e) (λ _. before_at_once s law t.slot n m waits u.slot q mode e))
      (λ e. let x : State = enqueued s u.slot q (wanted s u.slot q mode) in
      before_trans s x next t.slot n
      (before_enqueued s law u.slot q (wanted s u.slot q mode) t.slot n m (other_active u (all_none (tests_of s (command.Lock u q mode)) free).1.1.0) waits)
      (wait_settles_before s.detect s.victims x next u.slot t.slot n w (waiting-lawful s law u q mode (may_lock s u q mode (worn s) [] free).0 e) still
      (locks.waits e)))

  changed : Change s a next → Kept
  changed (change.Regraphed g is) = made_is _ is (λ _. before_same s _ t.slot n (λ v. refl) refl refl)
  changed (change.Born u x g active birth is) = made_is _ is (λ _. before_new s law t.slot n m waits g x birth u.slot)
  changed (change.Begun u age since is) = made_is _ is (λ _. before_same s _ t.slot n (λ v. refl) refl refl)
  changed (change.Locked u q mode free locks is) = locked u q mode free locks
  changed (change.Granted u q mode free is) =
      let passed = all_none (tests_of s (command.Try u q mode)) free in
      made_is _ is (λ _. before_at_once s law t.slot n m waits u.slot q mode (not_false _ (test_fails _ no.WouldBlock passed.1.1.1.1.1.1.1.0)))
  changed (change.Unlocked u q free is) =
      let passed = all_none (tests_of s (command.Unlock u q)) free in
      made_is _ is (before_taken s law _ _ _ (same_node q)
      (unlocked-less s law u.slot q (active_is s u passed.1.0 passed.1.1.0 passed.1.1.1.0) passed.1.1.1.1.1.1.0) t.slot n w)
  changed (change.Shed u q free is) =
      let passed = all_none (tests_of s (command.Escalate u q)) free in
      let up : State = raised s u.slot q in
      let active = active_is s u passed.1.0 passed.1.1.0 passed.1.1.1.0 in
      let held : holds (members s q) u.slot ≡ true = not_false _ (test_fails _ no.NotHeld passed.1.1.1.1.1.1.0) in
      let up_law = raised-lawful s law u.slot q active (and_both _ _ (nodes_live s (q ∷ []) passed.1.1.1.1.0)).0
      (test_fails _ no.BadParents passed.1.1.1.1.1.0) held (not_false _ (test_fails _ no.WouldBlock passed.1.1.1.1.1.1.1.0)) in
      made_is _ is (λ l. before_trans s up _ t.slot n
      (before_granted s u.slot q (wanted s u.slot q (asked_by_escalation s u.slot q)) t.slot n (λ _. held) (λ _. supremum-above (s.held u.slot q) _))
      (before_taken up up_law _ _ _ (is_covered up u.slot q) (shed-less up up_law u.slot q active) t.slot n w l))
  changed (change.Cancelled u is) =
      made_is _ is (before_taken s law _ _ _ (is_waiting_at s u.slot) (without_wait-less s law u.slot Active (λ q v e. cc)) t.slot n w)
  changed (change.Released u is) = made_is _ is (before_taken s law _ _ _ (at_all s u.slot) (released-less s law u.slot) t.slot n w)
  changed (change.Settles u is) = settled_before s.victims s next u.slot t.slot n w law still is
  changed (change.Departed goes g is) = made_is _ is (before_departed s goes g t.slot n w)
  changed (change.Parted u i x bound g free split is) =
      made_is _ is (λ l. before_parted s law t.slot n m waits i x g u.slot w split.birth l)
  changed (change.Moved x ps g is) = made_is _ is (λ _. before_moved s law x ps g t.slot n m waits)

-- over a step with t waiting on n before and after
pub step_before : (s s' : State) (c : Command) (a : Answer) (told : Told) (t : TxnId) (n : NodeId) → IsLawful s → Step s c a told s' → waits_on s t n ≡ true
    → waits_on s' t n ≡ true → KeepsBefore s s' t.slot n
step_before s s' c a told t n law step begin end =
    let b = waiting_is (status_of s t.slot) n (and_both _ _ begin).1 in
    each_step (λ (x : State). waits_on x t n ≡ true → KeepsBefore s x t.slot n) s c a told s' (λ h. before_same s s t.slot n (λ v. refl) refl refl)
    (λ next k h. let kept = k h in record { stood = kept.stood; no_less = kept.no_less; most = kept.most })
    (λ free next acc h. let e = waiting_is (status_of next t.slot) n (and_both _ _ h).1 in
    changed s law t n b.0 b.1 a next e.0 e.1 (change_of s c a told next free acc)) step end
