use Rattle.std.specs.Prelude.{◌+◌, ◌&&◌, Err, None, Ok, Option, Result, Some, not, true, []}
use Rattle.gl_graph.specs.Refusals.{Refuses}
use Rattle.std.proofs.Common.{ap, refl, rules, subst, sym, ◌≡◌, ◌∙◌}
use Rattle.gl_modes.proofs.Words.{no}
use Rattle.gl_modes.specs.Modes.{same_mode}
use Rattle.gl_modes.specs.declared.mode.Mode.{Mode}
use Rattle.gl_modes.specs.declared.mode.Mode.TheVariants.{NL}
use Rattle.gl_modes.specs.declared.refusal.Refusal.{Refusal}
use Rattle.gl_model.specs.declared.answers.Locked.{Locked}
use Rattle.gl_model.specs.Deadlocks.{LocksKeeping}
use Rattle.gl_model.specs.Calls.{lock_tests}
use Rattle.gl_table.specs.Table.{state_of as table_state}
use Rattle.gl_table.proofs.calls.Locking.{refuses_err, refuses_ok}
use Rattle.gl_steps.specs.declared.command.Command.TheVariants as command
use Rattle.gl_catalog.specs.Completes.{Completes}
use Rattle.gl_catalog.specs.Counters.{holds_already, lock_counted, lock_passes, passes_at, raise_passes}
use Rattle.gl_model.specs.State.{counting, lives}
use Rattle.gl_catalog.specs.Manager.{IsLawfulManager, ManagerView, state_of}
use Rattle.gl_catalog.specs.Replies.{CallSteps, asking}
use Rattle.gl_steps.specs.Step.{answer_of_lock}
use Rattle.gl_steps.proofs.Counting.{locks_counting, locks_keeping_counting}
use Rattle.gl_catalog.proofs.Managed.{managed_err_or_memory, managed_ok, not_both}
use Rattle.gl_catalog.proofs.Completed.{completed, lock_counts, lock_lives}
use Rattle.gl_catalog.proofs.Passing.{lock_passes_is}
use Rattle.gl_model.proofs.law.Lock.{MayLock, may_lock}
use Rattle.gl_catalog.specs.Sound.{view_of}
use Rattle.gl_table.specs.Table.{KeepsOrders}
use Rattle.gl_catalog.proofs.manager.Manager.lock_telling.Goals.{After-count_lock}
use Rattle.gl_catalog.proofs.manager.Manager.lock_telling.Goals as goal

pub returns-in_err-held-clause-step : goal.returns-in_err-held-clause-step
returns-in_err-held-clause-step c =
    let is : c.from_residual-in_err-held.result ≡ Err c.in_err-held.field-0.0 = search rules in
    subst (λ (r : Result Locked Refusal). CallSteps (state_of c.args.self.now) (command.Lock c.args.t c.args.n c.args.mode)
    (asking c.lock_from.new.notices.items) r (counting c.self.inside.accepted (table_state c.lock_from.new.self))) (sym is)
    (managed_err_or_memory (asking c.lock_from.new.notices.items)
    (command.Lock c.args.t c.args.n c.args.mode) c.self.inside.table c.self.inside.accepted c.args.self.now c.self.view_is (lock_tests
    (table_state c.self.inside.table) c.args.t c.args.n c.args.mode) refl
    c.in_err-held.field-0.0 c.lock_from.new.self c.in_ok-check_count.ensures (λ none. not_both _ _ (λ enters holds. no
    (c.in_err-held.ensures.refuses.held none enters holds))) (refuses_err _ _ _ c.in_err-held.field-0.0 c.in_err-held.ensures.refuses.refuses)
    c.in_err-held.ensures.kept.err)

-- the manager as the lock left it, before it is counted
abbrev locked : After-count_lock → ManagerView
locked c = record { table = c.lock_from.new.self; accepted = c.self.inside.accepted + 1; counters = c.self.inside.counters }

stepped : (c : After-count_lock) → CallSteps (state_of c.args.self.now) (command.Lock c.args.t c.args.n c.args.mode) (asking c.lock_from.new.notices.items)
    (Ok c.in_ok-held.locked) (state_of (locked c))
stepped c =
    managed_ok (asking c.lock_from.new.notices.items)
    (command.Lock c.args.t c.args.n c.args.mode) c.self.inside.table c.self.inside.accepted c.args.self.now c.self.view_is (lock_tests
    (table_state c.self.inside.table) c.args.t c.args.n c.args.mode) refl
    c.in_ok-held.locked c.lock_from.new.self c.in_ok-check_count.ensures (refuses_ok _ _ c.in_ok-held.locked c.in_ok-held.ensures.refuses.refuses) refl (
      locks_counting c.self.inside.accepted (table_state c.self.inside.table) c.args.t.slot c.args.n c.args.mode
          (table_state c.lock_from.new.self) c.in_ok-held.ensures.state,
      ap answer_of_lock c.in_ok-held.ensures.answer,
      c.in_ok-held.ensures.told,
    )

kept : (c : After-count_lock) → LocksKeeping (state_of c.args.self.now) c.args.t.slot c.args.n c.args.mode c.args.self.now.table.deadlock
    (counting c.args.self.now.accepted (table_state c.lock_from.new.self)) c.lock_from.new.self.deadlock
kept c =
    subst (λ (v : ManagerView). LocksKeeping (state_of v) c.args.t.slot c.args.n c.args.mode v.table.deadlock (counting v.accepted
    (table_state c.lock_from.new.self)) c.lock_from.new.self.deadlock) c.self.view_is
    (locks_keeping_counting c.self.inside.accepted (table_state c.self.inside.table) c.args.t.slot c.args.n c.args.mode c.self.inside.table.deadlock
    (table_state c.lock_from.new.self) c.lock_from.new.self.deadlock c.in_ok-held.ensures.deadlock)

-- and once it is counted
abbrev noted : After-count_lock → ManagerView
noted c = record (locked c) {
  counters = lock_counted (state_of (locked c)) c.args.n (not (same_mode c.in_ok-held.held NL))
      (lock_passes (state_of (locked c)) c.args.n c.in_ok-held.held c.in_ok-held.locked)
      (answer_of_lock c.in_ok-held.locked) c.as_slice.result.now c.self.inside.counters;
}

-- the node was held before
alive : (c : After-count_lock) → lives (state_of (view_of c.self.inside)) c.args.t ≡ true
alive c =
    lock_lives (table_state c.self.inside.table) c.args.t c.args.n c.args.mode (c.in_ok-held.held, c.in_ok-held.locked) c.in_ok-held.ensures.refuses.refuses

converts : (c : After-count_lock) → not (same_mode c.in_ok-held.held NL) ≡ holds_already (state_of c.args.self.now) c.args.t c.args.n
converts c =
    ap (λ m. not (same_mode m NL)) c.in_ok-held.ensures.before
    ∙ sym (ap (λ b. b && not (same_mode ((table_state c.self.inside.table).held c.args.t.slot c.args.n) NL)) (alive c))
    ∙ ap (λ (v : ManagerView). holds_already (state_of v) c.args.t c.args.n) c.self.view_is

-- the requester passed the tests
may : (c : After-count_lock) → MayLock (state_of (view_of c.self.inside)) c.args.t c.args.n c.args.mode
may c =
    (may_lock (state_of (view_of c.self.inside)) c.args.t c.args.n c.args.mode None [] (goes _ c.in_ok-held.ensures.refuses.refuses)).0
  where
    goes : (o : Option Refusal) → Refuses {T = Mode × Locked} o (Ok (c.in_ok-held.held, c.in_ok-held.locked)) → o ≡ None
    goes None h = refl
    goes (Some r) h = absurd (cc)

-- and whether it passed a waiter is read from the lock's outcome
passed : (c : After-count_lock) → lock_passes (state_of (locked c)) c.args.n c.in_ok-held.held c.in_ok-held.locked
    ≡ passes_at (state_of c.args.self.now) c.args.t c.args.n (state_of (locked c))
passed c =
    ap (λ h. lock_passes (state_of (locked c)) c.args.n h c.in_ok-held.locked) c.in_ok-held.ensures.before
    ∙ lock_passes_is (state_of (view_of c.self.inside)) c.self.invariant.lawful c.args.t c.args.n c.args.mode (may c)
    (counting c.self.inside.accepted (table_state c.lock_from.new.self))
    (locks_counting c.self.inside.accepted (table_state c.self.inside.table) c.args.t.slot c.args.n c.args.mode
    (table_state c.lock_from.new.self) c.in_ok-held.ensures.state) c.in_ok-held.locked c.in_ok-held.ensures.answer
    ∙ sym (ap (λ b. b && raise_passes (state_of (locked c)) c.args.n ((table_state c.self.inside.table).held c.args.t.slot c.args.n)
    ((table_state c.lock_from.new.self).held c.args.t.slot c.args.n)) (alive c))
    ∙ ap (λ (v : ManagerView). passes_at (state_of v) c.args.t c.args.n (state_of (locked c))) c.self.view_is

pub returns-clause-step : goal.returns-clause-step
returns-clause-step c =
    subst (λ (v : ManagerView). CallSteps (state_of c.args.self.now) (command.Lock c.args.t c.args.n c.args.mode) (asking c.lock_from.new.notices.items)
    (Ok c.in_ok-held.locked) (state_of v)) (sym c.count_lock.ensures) (stepped c)

pub returns-clause-completes : goal.returns-clause-completes
returns-clause-completes c =
    subst (λ (v : ManagerView). Completes (command.Lock c.args.t c.args.n c.args.mode) c.args.self.now
    (asking c.lock_from.new.notices.items c.in_ok-held.locked) v) (sym c.count_lock.ensures)
    (completed c.args.self.now (noted c) (subst IsLawfulManager c.self.view_is c.self.invariant) (command.Lock c.args.t c.args.n c.args.mode)
    (asking c.lock_from.new.notices.items c.in_ok-held.locked) (stepped c) (kept c)
    (ap (λ (v : ManagerView). v.accepted + 1) c.self.view_is)
    ((λ i. lock_counted (state_of (locked c)) c.args.n (not (same_mode c.in_ok-held.held NL))
    (lock_passes (state_of (locked c)) c.args.n c.in_ok-held.held c.in_ok-held.locked) (answer_of_lock c.in_ok-held.locked) (c.as_slice.ensures.value i)
    (c.self.view_is i).counters)
    ∙ lock_counts (state_of c.args.self.now) (state_of
    (locked c)) c.args.t c.args.n c.args.mode c.lock_from.new.notices.items (not (same_mode c.in_ok-held.held NL))
    (lock_passes (state_of (locked c)) c.args.n c.in_ok-held.held c.in_ok-held.locked) c.args.self.now.counters (converts c) (passed c)
    c.in_ok-held.locked)
    (subst (λ (v : ManagerView). KeepsOrders v.table c.lock_from.new.self) c.self.view_is c.in_ok-held.ensures.orders))
