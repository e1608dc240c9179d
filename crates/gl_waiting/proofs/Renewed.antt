-- One that begins with the locks of the transaction before it may rest. For Resting.commit_keeping.
use Rattle.std.specs.Prelude.{◌≡◌, ℕ, ◌+◌, true, false, not, ◌&&◌, List, [], ◌∷◌, Some, None, Ok, if◌then◌else◌, map, min, ◌<◌, ◌≤◌}
use Rattle.std.specs.List.{list_any}
use Rattle.std.proofs.Common.{refl, sym, ap, arith, ◌∙◌, ⊎_elim, rules}
use Rattle.gl_modes.proofs.Words.{both, clash, no, not_true, or_elim, number_same, split}
use Rattle.gl_modes.specs.declared.mode.Mode.{Mode}
use Rattle.gl_modes.specs.declared.mode.Mode.TheVariants.{IX, NL, S}
use Rattle.gl_modes.specs.declared.node.NodeId.{NodeId}
use Rattle.gl_modes.specs.Modes.{are_compatible, is_at_least, same_mode}
use Rattle.gl_graph.specs.Graph.{nodes}
use Rattle.gl_graph.specs.Refusals.{first_refusal}
use Rattle.gl_graph.proofs.Moved.{some_at}
use Rattle.gl_graph.proofs.RouteLengths.{listed}
use Rattle.gl_graph.proofs.Unrefused.{not_refused, or_no, test_fails}
use Rattle.gl_header.specs.Header.{Waiter, holds, is_among_waiters, is_empty}
use Rattle.gl_model.specs.Calls.{condemned_test, hinders_at, need_release, no_txn, renew_tests, waiting_test}
use Rattle.gl_model.specs.Deadlocks.{name_at}
use Rattle.gl_model.specs.declared.txn.Status.TheVariants.{Active}
use Rattle.gl_model.specs.declared.txn.TxnId.{TxnId}
use Rattle.gl_model.specs.Lawful.{IsLawful}
use Rattle.gl_model.specs.State.{State, is_wait, members, status_in, status_of, waits_for}
use Rattle.gl_model.specs.Tellings.{Told}
use Rattle.gl_model.proofs.law.Edges.{step_is}
use Rattle.gl_model.proofs.law.Keeps.{txn_there, waiting_is}
use Rattle.gl_model.proofs.queues.Waiters.{ahead_is, ahead_second, among_by_filter}
use Rattle.gl_steps.specs.declared.command.Command.TheVariants as command
use Rattle.gl_steps.proofs.StepsKeepLaw.{runs_keep_law}
use Rattle.gl_fairness.specs.Aside.{StaysAside, some_left_waiting}
use Rattle.gl_rows.specs.Locking.{Line}
use Rattle.gl_catalog.specs.Manager.{state_of}
use Rattle.gl_rows.proofs.Tidied.{at_end_upkeep}
use Rattle.gl_waiting.specs.Asking.{InTurn, KeepsLocks}
use Rattle.gl_waiting.specs.Going.{IsRunOf}
use Rattle.gl_waiting.specs.Waiting.{WaitingView}
use Rattle.gl_waiting.specs.declared.set_off.SetOff.{SetOff}
use Rattle.gl_waiting.proofs.Rests.{active_lives, aside, left_is_named}
use Rattle.gl_waiting.proofs.Runs.{commands, own_then, own_upkeep}
use Rattle.gl_waiting.proofs.TurnRuns.{hands_run}

-- the transaction of a slot is active, and holds intentions alone; nobody waits for it
pub record MayRest (s : State) (u : ℕ) : Type 0 where
  pub active : status_of s u ≡ Some Active
  pub intends : (n : NodeId) → is_at_least IX (s.held u n) ≡ true
  pub alone : (t : ℕ) → waits_for s t u ≡ false

-- its slot is one of those that there are
pub may_below : (s : State) (u limit : ℕ) → IsLawful s → MayRest s u → s.most ≤ limit → u < limit
may_below s u limit law may few =
    let below : u < s.most = law.slots_below u (txn_there (s.txns u) _ may.active) in
    omega (arith, below, few)

-- what is not as great as S is an intention
intention : (m : Mode) → is_at_least m S ≡ false → is_at_least IX m ≡ true
intention m low = search rules

empty_queue : (q : List Waiter) (u : ℕ) → is_among_waiters u q ≡ true → not (is_empty q) ≡ true
empty_queue [] u h = absurd (no h)
empty_queue (w ∷ q) u h = refl

-- a lawful state in which an active transaction hinders nobody
module _ (s : State) (law : IsLawful s) (u : ℕ) (active : status_of s u ≡ Some Active) (free : list_any (hinders_at s u) (nodes s.graph) ≡ false) where
  -- it hinders nobody on a node that it holds
  free_at : (n : NodeId) → holds (members s n) u ≡ true
      → (is_at_least (s.held u n) S ≡ false) × ((holds (members s n) u && not (is_empty (s.queue n))) ≡ false)
  free_at n held =
      or_no (is_at_least (s.held u n) S) _ (not_true (hinders_at s u n)
      (λ h. clash (some_at (hinders_at s u) (nodes s.graph) n (listed s.graph law.graph n (law.grants_live u n held).1) h) free))

  held_by : (n : NodeId) → is_at_least IX (s.held u n) ≡ true
  held_by n =
      split (holds (members s n) u) (λ e. intention (s.held u n) (free_at n e).0)
      (λ e. nothing (s.held u n) e)
    where
      nothing : (m : Mode) → not (same_mode m NL) ≡ false → is_at_least IX m ≡ true
      nothing m e = search rules

  -- who waits for it waits on a node that it holds, or after it
  waited : (t : ℕ) → waits_for s t u ≡ true → ⊥
  waited t waits =
      let st = step_is s t u waits in
      let n : NodeId = st.0 in
      let among : is_among_waiters t (s.queue n) ≡ true = among_by_filter t (t, st.1) [] (s.queue n) (law.one_wait t n st.1 st.2.waits) in
      or_elim _ _ st.2.blocked
      (λ clashes. split (holds (members s n) u)
      (λ e. clash (both _ _ e (empty_queue (s.queue n) t among)) (free_at n e).1)
      (λ e. nobody st.1 (s.held u n) e clashes))
      (λ ahead. let second = ahead_second (s.queue n) t u (sym (ahead_is (s.queue n) t u) ∙ ahead) in
      let w = waiting_is (status_of s u) n (law.waits_are u n second) in
      clash (ap is_wait w.1) (ap is_wait active))
    where
      nobody : (wanted held : Mode) → not (same_mode held NL) ≡ false → not (are_compatible wanted held) ≡ true → ⊥
      nobody wanted held none clashes = search rules

  pub hinders_none : MayRest s u
  hinders_none = record { active = active; intends = held_by; alone = λ t. not_true _ (waited t) }

-- a renewal that is not refused
renews_free : (s : State) (t : TxnId) → first_refusal (renew_tests s t) ≡ None → list_any (hinders_at s t.slot) (nodes s.graph) ≡ false
renews_free s t h =
    let a = not_refused (no_txn s t) _ h in
    let b = not_refused (waiting_test (status_of s t.slot)) _ a.1 in
    let c = not_refused (condemned_test (status_of s t.slot)) _ b.1 in
    test_fails _ _ (not_refused (need_release s t.slot) _ c.1).0

-- one that may rest may do so after a run that names nobody
still_rests : (s s' : State) → IsLawful s → IsRunOf command.Begin s s' → (u : ℕ) → MayRest s u → MayRest s' u
still_rests s s' law run u may = record {
  active = kept.active.1;
  intends = λ n. ap (is_at_least IX) (kept.held n) ∙ may.intends n;
  alone = λ t. not_true _ (λ waits. ⊎_elim (λ (before : waits_for s t u ≡ true). clash before (may.alone t))
      (λ left. no (left_is_named s s' command.Begin law run t left).2) (kept.waited t waits));
}
  where
    kept : StaysAside s s' (name_at s u) (λ t. some_left_waiting t (commands run.0.0) (map (λ (l : Line). l.1) run.0.0))
    kept = aside s s' command.Begin law run (name_at s u) (active_lives s u may.active, may.active) refl

-- a commit that keeps locks, after which a transaction begins
module _ (v : WaitingView) (law : IsLawful (state_of v.manager)) (t : TxnId) (keep since : ℕ) (next : TxnId) (told : Told) (off : SetOff) (v' : WaitingView)
    (h : InTurn v (λ ended mid. KeepsLocks v t keep since (Ok (Some next)) told ended mid) off v') where
  -- the state after the renewal
  abbrev renewed : State
  renewed = state_of h.called.keeps.0

  lawful : IsLawful renewed
  lawful = runs_keep_law (state_of v.manager) renewed _ _ law h.called.keeps.1.run

  renews : MayRest renewed t.slot
  renews =
      let r = h.called.keeps.1.keeps.renews in
      let s : State = h.called.keeps.1.keeps.mid in
      let is = r.2 in
      hinders_none renewed lawful t.slot
      (ap (λ (x : State). status_of x t.slot) is
      ∙ ap (λ b. status_in (if b then Some (record { age = s.begins + 1; since = min since (s.begins + 1); status = Active }) else s.txns t.slot))
      (number_same t.slot t.slot refl))
      (ap (λ (x : State). list_any (hinders_at x t.slot) (nodes x.graph)) is ∙ renews_free s t r.0)

  -- then rows are let go, and begins handed on
  pub begins_to_rest : MayRest (state_of v'.manager) t.slot
  begins_to_rest =
      still_rests renewed (state_of v'.manager) lawful
      (own_then command.Begin renewed (state_of h.mid.manager) (state_of v'.manager)
      (own_upkeep command.Begin renewed (state_of h.mid.manager) (at_end_upkeep h.called.keeps.0 h.mid.manager v.rows h.mid.rows t.slot
      h.called.keeps.2))
      (hands_run command.Begin h.hands.count h.mid v' h.hands.hands)) t.slot renews
