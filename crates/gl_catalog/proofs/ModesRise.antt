-- Each command leaves a node that is still held in at least its mode. For the law of savepoints.
use Rattle.std.specs.Prelude.{◌≡◌, ℕ, zero, suc, ◌&&◌, ◌==◌, Bool, true, List, [], ◌∷◌, None, Option, if◌then◌else◌, not}
use Rattle.std.proofs.Common.{refl, sym, ap, subst, ⊎_elim, ◌∙◌}
use Rattle.gl_modes.proofs.Words.{and_both, clash, split}
use Rattle.gl_modes.proofs.ModeLemmas.{at_least-refl, at_least-transitive, supremum-above}
use Rattle.gl_modes.proofs.NodeLemmas.{same_node-equal}
use Rattle.gl_modes.proofs.Words.{same_number}
use Rattle.gl_modes.specs.declared.mode.Mode.{Mode}
use Rattle.gl_modes.specs.declared.mode.Mode.TheVariants.{IS, IX, NL, S, SIX, X}
use Rattle.gl_modes.specs.declared.node.NodeId.{NodeId}
use Rattle.gl_modes.specs.declared.refusal.Refusal.TheVariants as no
use Rattle.gl_modes.specs.Modes.{is_at_least, same_mode}
use Rattle.gl_modes.specs.Nodes.{same_node}
use Rattle.gl_graph.specs.Graph.{Graph}
use Rattle.gl_graph.proofs.Unrefused.{not_false, test_fails}
use Rattle.gl_header.specs.Header.{Waiter, holds}
use Rattle.gl_waits.specs.declared.victims.Victims.{Victims}
use Rattle.gl_model.specs.declared.answers.Detect.{Detect}
use Rattle.gl_model.specs.declared.answers.Detect.TheVariants.{AtBlock, ByWatcher}
use Rattle.gl_model.specs.declared.txn.Status.{Status}
use Rattle.gl_model.specs.declared.txn.Status.TheVariants.{Active, Condemned}
use Rattle.gl_model.specs.declared.txn.TxnId.{TxnId}
use Rattle.gl_model.specs.Calls.{Locks, WaitSettles, asked_by_escalation, departed, enqueued, enters_at, freed, is_covered, raised, wanted}
use Rattle.gl_model.specs.Lawful.{IsLawful}
use Rattle.gl_model.specs.Splits.{split_by}
use Rattle.gl_model.specs.State.{SettledWithin, State, Txn, condemned, is_waiting_at, members, pumped, with_grant, with_graph, without_wait}
use Rattle.gl_model.proofs.law.Keeps.{IsLess, grant_case, grew, less-lawful}
use Rattle.gl_model.proofs.law.Lock.{may_lock, unlocked-less, waiting-lawful}
use Rattle.gl_model.proofs.law.Takes.{IsQuiet, at_all, condemned-lawful, released-less, without_wait-less}
use Rattle.gl_model.proofs.law.Tests.{raised-lawful, shed-less}
use Rattle.gl_steps.specs.declared.command.Answer.{Answer}
use Rattle.gl_steps.specs.declared.command.Command.TheVariants as command
use Rattle.gl_steps.specs.Tests.{refusal_of, tests_of, worn}
use Rattle.gl_steps.proofs.Changes.{Change, change_of}
use Rattle.gl_steps.proofs.Changes as change
use Rattle.gl_steps.proofs.EachStep.{each_step}
use Rattle.gl_steps.proofs.NotRefused.{active_is, nodes_live}
use Rattle.gl_steps.proofs.OneStep.{all_none}
use Rattle.gl_catalog.specs.Savepoints.{KeepsModes, StepsKeepModes}

-- all hold at least what they held
abbrev Grows : State → State → Type 0
Grows s s' = (u : ℕ) (n : NodeId) → is_at_least (s'.held u n) (s.held u n) ≡ true

grows_same : (s s' : State) → ((u : ℕ) (n : NodeId) → s'.held u n ≡ s.held u n) → Grows s s'
grows_same s s' same u n = ap (λ m. is_at_least m (s.held u n)) (same u n) ∙ at_least-refl (s.held u n)

grows_then : (a b c : State) → Grows a b → Grows b c → Grows a c
grows_then a b c f g u n = at_least-transitive (c.held u n) (b.held u n) (a.held u n) (g u n) (f u n)

keeps : (s s' : State) → Grows s s' → KeepsModes s s'
keeps s s' f = record { no_less = λ u n h. f u n }

grows_keeps : (a b c : State) → Grows a b → KeepsModes b c → KeepsModes a c
grows_keeps a b c f g = record { no_less = λ u n h. at_least-transitive (c.held u n) (b.held u n) (a.held u n) (g.no_less u n h) (f u n) }

-- X is the greatest mode
most : (m : Mode) → is_at_least X m ≡ true
most NL = refl
most IS = refl
most IX = refl
most S = refl
most SIX = refl
most X = refl

-- one is granted more
grows_granted : (s : State) (u : ℕ) (q : NodeId) (w : Mode) → is_at_least w (s.held u q) ≡ true → Grows s (with_grant s u q w)
grows_granted s u q w more v n = split ((v == u) && same_node n q)
    (λ e. let at = and_both _ _ e in
    ap (λ b. is_at_least (if b then w else s.held v n) (s.held v n)) e
    ∙ ap (λ x. is_at_least w (s.held x n)) (same_number v u at.0) ∙ ap (λ p. is_at_least w (s.held u p)) (same_node-equal n q at.1) ∙ more)
    (λ e. ap (λ b. is_at_least (if b then w else s.held v n) (s.held v n)) e ∙ at_least-refl (s.held v n))

-- grants or waits are removed, and then nodes grant from their fronts
keeps_taken : (s : State) → IsLawful s → (held : ℕ → NodeId → Mode) (queue : NodeId → List Waiter) (txns : ℕ → Option Txn) (chosen : NodeId → Bool)
    → IsLess s held queue txns chosen → KeepsModes s (pumped (record s { held = held; queue = queue; txns = txns }) chosen)
keeps_taken s law held queue txns chosen less = record { no_less = each }
  where
    taken : State
    taken = record s { held = held; queue = queue; txns = txns }

    each : (u : ℕ) (n : NodeId) → holds (members (pumped (record s { held = held; queue = queue; txns = txns }) chosen) n) u ≡ true
        → is_at_least ((pumped (record s { held = held; queue = queue; txns = txns }) chosen).held u n) (s.held u n) ≡ true
    each u n h =
        let but = less-lawful s law held queue txns chosen less in
        grant_case (record s { held = held; queue = queue; txns = txns }) chosen but u n
        (λ m st g e out. subst (λ (x : Mode). is_at_least ((pumped (record s { held = held; queue = queue; txns = txns }) chosen).held u n) x ≡ true)
        ((less.waits_same u n m st).1 n) (grew (record s { held = held; queue = queue; txns = txns }) chosen but u n))
        (λ g e. ⊎_elim (λ none. clash h (ap (λ x. not (same_mode x NL)) (e ∙ none)))
        (λ same. ap (λ x. is_at_least x (s.held u n)) (e ∙ same) ∙ at_least-refl (s.held u n)) (less.kept u n))

-- a wait ends
grows_withdrawn : (s : State) → IsLawful s → (t : ℕ) (st : Status) → IsQuiet st → Grows s (pumped (without_wait s t st) (is_waiting_at s t))
grows_withdrawn s law t st quiet u n =
    grew (without_wait s t st) (is_waiting_at s t) (less-lawful s law s.held _ _ (is_waiting_at s t) (without_wait-less s law t st quiet)) u n

grows_settled : (c : Victims) (k : ℕ) (s s' : State) (u : ℕ) → IsLawful s → SettledWithin c k s u s' → Grows s s'
grows_settled c zero s s' u law h = subst (Grows s) (sym h.1) (grows_same s s (λ v n. refl))
grows_settled c (suc k) s s' u law h =
    let mid = condemned s h.0 in
    grows_then s mid s' (grows_withdrawn s law h.0 Condemned (λ q w e. cc)) (grows_settled c k mid s' u (condemned-lawful s law h.0) h.2)

grows_wait : (d : Detect) (c : Victims) (s s' : State) (u : ℕ) → IsLawful s → WaitSettles d c s u s' → Grows s s'
grows_wait AtBlock c s s' u law h = grows_settled c h.0 s s' u law h.1
grows_wait ByWatcher c s s' u law h = subst (Grows s) (sym h) (grows_same s s (λ v n. refl))

-- nodes are removed from the graph
keeps_departed : (s : State) (goes : NodeId → Bool) (g : Graph) → KeepsModes s (departed s goes g)
keeps_departed s goes g = record {
  no_less = λ u n h. split (goes n) (λ e. clash h (ap (λ b. not (same_mode (if b then NL else s.held u n) NL)) e))
      (λ e. ap (λ b. is_at_least (if b then NL else s.held u n) (s.held u n)) e ∙ at_least-refl (s.held u n));
}

-- a new node is held in X
grows_new : (s : State) (g : Graph) (x : NodeId) (u : ℕ) → Grows s (with_grant (with_graph s g) u x X)
grows_new s g x u = grows_then s (with_graph s g) (with_grant (with_graph s g) u x X) (grows_same s (with_graph s g) (λ v n. refl))
    (grows_granted (with_graph s g) u x X (most (s.held u x)))

-- an interval is split, and the new one is held in X
grows_parted : (s : State) (i : NodeId) (g : Graph) (x : NodeId) (u : ℕ) → Grows s (split_by s u i g x)
grows_parted s i g x u =
    let mid : State = record s { graph = g; queue = λ q. if same_node q i then [] else s.queue q; txns = λ v. freed i (s.txns v) } in
    grows_then s mid (split_by s u i g x) (grows_same s mid (λ v n. refl)) (grows_granted mid u x X (most (s.held u x)))

module _ (s : State) (law : IsLawful s) (a : Answer) (next : State) where
  made_is : (made : State) → next ≡ made → KeepsModes s made → KeepsModes s next
  made_is made e f = subst (KeepsModes s) (sym e) f

  same_is : (made : State) → next ≡ made → ((u : ℕ) (n : NodeId) → made.held u n ≡ s.held u n) → KeepsModes s next
  same_is made e same = made_is made e (keeps s made (grows_same s made same))

  locked : (u : TxnId) (q : NodeId) (mode : Mode) → refusal_of s (command.Lock u q mode) ≡ None → Locks s u.slot q mode next → KeepsModes s next
  locked u q mode free locks = split (enters_at s u.slot q mode)
      (λ e. made_is _ (locks.at_once e) (keeps s _ (grows_granted s u.slot q (wanted s u.slot q mode) (supremum-above (s.held u.slot q) mode))))
      (λ e. let x : State = enqueued s u.slot q (wanted s u.slot q mode) in
      keeps s next (grows_then s x next (grows_same s x (λ v n. refl)) (grows_wait s.detect s.victims x next u.slot
      (waiting-lawful s law u q mode (may_lock s u q mode (worn s) [] free).0 e) (locks.waits e))))

  changed : Change s a next → KeepsModes s next
  changed (change.Regraphed g is) = same_is _ is (λ u n. refl)
  changed (change.Born u x g active birth is) = made_is _ is (keeps s _ (grows_new s g x u.slot))
  changed (change.Begun u age since is) = same_is _ is (λ v n. refl)
  changed (change.Locked u q mode free locks is) = locked u q mode free locks
  changed (change.Granted u q mode free is) =
      made_is _ is (keeps s _ (grows_granted s u.slot q (wanted s u.slot q mode) (supremum-above (s.held u.slot q) mode)))
  changed (change.Unlocked u q free is) =
      let passed = all_none (tests_of s (command.Unlock u q)) free in
      made_is _ is (keeps_taken s law _ _ _ (same_node q)
      (unlocked-less s law u.slot q (active_is s u passed.1.0 passed.1.1.0 passed.1.1.1.0) passed.1.1.1.1.1.1.0))
  changed (change.Shed u q free is) =
      let passed = all_none (tests_of s (command.Escalate u q)) free in
      let up : State = raised s u.slot q in
      let active = active_is s u passed.1.0 passed.1.1.0 passed.1.1.1.0 in
      let held : holds (members s q) u.slot ≡ true = not_false _ (test_fails _ no.NotHeld passed.1.1.1.1.1.1.0) in
      let up_law = raised-lawful s law u.slot q active (and_both _ _ (nodes_live s (q ∷ []) passed.1.1.1.1.0)).0
      (test_fails _ no.BadParents passed.1.1.1.1.1.0) held (not_false _ (test_fails _ no.WouldBlock passed.1.1.1.1.1.1.1.0)) in
      made_is _ is (grows_keeps s up _
      (grows_granted s u.slot q (wanted s u.slot q (asked_by_escalation s u.slot q)) (supremum-above (s.held u.slot q) _))
      (keeps_taken up up_law _ _ _ (is_covered up u.slot q) (shed-less up up_law u.slot q active)))
  changed (change.Cancelled u is) = made_is _ is (keeps s _ (grows_withdrawn s law u.slot Active (λ q v e. cc)))
  changed (change.Released u is) = made_is _ is (keeps_taken s law _ _ _ (at_all s u.slot) (released-less s law u.slot))
  changed (change.Settles u is) = keeps s next (grows_settled s.victims is.0 s next u.slot law is.1)
  changed (change.Departed goes g is) = made_is _ is (keeps_departed s goes g)
  changed (change.Parted u i q bound g free split is) = made_is _ is (keeps s _ (grows_parted s i g q u.slot))
  changed (change.Moved x ps g is) = same_is _ is (λ v n. refl)

pub steps_keep_modes : StepsKeepModes
steps_keep_modes s s' c a told law step =
    each_step (KeepsModes s) s c a told s' (keeps s s (grows_same s s (λ u n. refl))) (λ next k. record { no_less = k.no_less })
    (λ free next acc. changed s law a next (change_of s c a told next free acc)) step
