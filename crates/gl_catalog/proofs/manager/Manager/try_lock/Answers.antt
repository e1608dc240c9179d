use Rattle.std.specs.Prelude.{◌+◌, Err, Result, not}
use Rattle.gl_modes.specs.Modes.{same_mode}
use Rattle.gl_modes.specs.declared.mode.Mode.TheVariants.{NL}
use Rattle.std.proofs.Common.{ap, refl, rules, subst, sym, ◌≡◌, ◌∙◌}
use Rattle.gl_modes.proofs.Words.{no}
use Rattle.gl_modes.specs.declared.mode.Mode.{Mode}
use Rattle.gl_modes.specs.declared.refusal.Refusal.{Refusal}
use Rattle.gl_model.specs.Calls.{try_tests}
use Rattle.gl_table.specs.Table.{state_of as table_state}
use Rattle.gl_steps.specs.declared.command.Answer.TheVariants as answer
use Rattle.gl_steps.specs.declared.command.Command.TheVariants as command
use Rattle.gl_catalog.specs.Counters.{holds_already, one_if, passes_at, raise_passes, rises}
use Rattle.gl_catalog.proofs.Passing.{granted_held, read_converts, read_passes}
use Rattle.gl_model.specs.State.{State, counting, lives}
use Rattle.gl_catalog.specs.Manager.{IsLawfulManager, ManagerView, state_of}
use Rattle.gl_catalog.specs.Replies.{CallSteps, took}
use Rattle.gl_catalog.proofs.Managed.{managed_err_or_memory, managed_ok, managed_worn, never_true}
use Rattle.gl_catalog.proofs.Completed.{completed, try_counted}
use Rattle.gl_table.specs.Table.{KeepsOrders}
use Rattle.gl_catalog.proofs.manager.Manager.try_lock.Goals.{After-add_grant}
use Rattle.gl_catalog.proofs.manager.Manager.try_lock.Goals as goal

pub returns-in_err-check_count-clause-step : goal.returns-in_err-check_count-clause-step
returns-in_err-check_count-clause-step c =
    let is : c.from_residual.result ≡ Err c.in_err-check_count.field-0.0 = search rules in
    subst (λ (r : Result Mode Refusal). CallSteps (state_of c.args.self.now) (command.Try c.args.t c.args.n c.args.mode) took r (state_of c.args.self.now))
    (sym is)
    (managed_worn took (command.Try c.args.t c.args.n c.args.mode) c.self.inside.table c.self.inside.accepted c.args.self.now c.self.view_is (try_tests
    (table_state c.self.inside.table) c.args.t c.args.n c.args.mode) refl c.in_err-check_count.field-0.0 c.in_err-check_count.ensures)

pub returns-in_err-mode-clause-step : goal.returns-in_err-mode-clause-step
returns-in_err-mode-clause-step c =
    let is : c.from_residual-in_err-mode.result ≡ Err c.in_err-mode.field-0.0 = search rules in
    subst (λ (r : Result Mode Refusal). CallSteps (state_of c.args.self.now) (command.Try c.args.t c.args.n c.args.mode) took r
    (counting c.self.inside.accepted (table_state c.try_lock.new.self))) (sym is)
    (managed_err_or_memory took (command.Try c.args.t c.args.n c.args.mode) c.self.inside.table c.self.inside.accepted c.args.self.now c.self.view_is
    (try_tests (table_state c.self.inside.table) c.args.t c.args.n c.args.mode) refl
    c.in_err-mode.field-0.0 c.try_lock.new.self c.in_ok-check_count.ensures (λ none. never_true _ (λ holds. no
    (c.in_err-mode.ensures.held none holds))) c.in_err-mode.ensures.refuses c.in_err-mode.ensures.err)

pub returns-clause-step : goal.returns-clause-step
returns-clause-step c =
    managed_ok took (command.Try c.args.t c.args.n c.args.mode) c.self.inside.table c.self.inside.accepted c.args.self.now c.self.view_is (try_tests
    (table_state c.self.inside.table) c.args.t c.args.n c.args.mode) refl
    c.in_ok-mode.mode c.try_lock.new.self c.in_ok-check_count.ensures c.in_ok-mode.ensures.refuses refl
    (ap answer.Granted c.in_ok-mode.ensures.mode, refl, ap (counting c.self.inside.accepted) c.in_ok-mode.ensures.state)

-- whether the node was held before
converts : (c : After-add_grant) → c.ne.result ≡ holds_already (state_of c.args.self.now) c.args.t c.args.n
converts c =
    let is : c.ne.result ≡ not (same_mode c.held_by-held.result NL) = search rules in
    is ∙ ap (λ m. not (same_mode m NL)) c.held_by-held.ensures
    ∙ read_converts (lives (state_of c.args.self.now) c.args.t) ((state_of c.args.self.now).held c.args.t.slot c.args.n)

-- and whether the try passed a waiter
passed : (c : After-add_grant) → c.raise_passes-passes.result ≡ passes_at (state_of c.args.self.now) c.args.t c.args.n
    (counting (c.self.inside.accepted + 1) (table_state c.try_lock.new.self))
passed c =
    let s' = counting (c.self.inside.accepted + 1) (table_state c.try_lock.new.self) in
    let s = state_of c.args.self.now in
    let now : c.in_ok-mode.mode ≡ s'.held c.args.t.slot c.args.n =
    c.in_ok-mode.ensures.mode ∙ sym (ap (λ (x : State). x.held c.args.t.slot c.args.n) c.in_ok-mode.ensures.state
    ∙ granted_held (table_state c.self.inside.table) c.args.t c.args.n c.args.mode) in
    c.raise_passes-passes.ensures ∙ (λ i. raise_passes s' c.args.n (c.held_by-held.ensures i) (now i))
    ∙ read_passes s' c.args.n (lives s c.args.t) (s.held c.args.t.slot c.args.n) (s'.held c.args.t.slot c.args.n)

pub returns-clause-completes : goal.returns-clause-completes
returns-clause-completes c =
    completed c.args.self.now (record { table = c.try_lock.new.self; accepted = c.self.inside.accepted + 1; counters = c.add_grant.new.self })
    (subst IsLawfulManager c.self.view_is c.self.invariant)
    (command.Try c.args.t c.args.n c.args.mode) (took c.in_ok-mode.mode) (returns-clause-step c) (c.in_ok-mode.ensures.deadlock
    ∙ ap (λ (v : ManagerView). v.table.deadlock) c.self.view_is)
    (ap (λ (v : ManagerView). v.accepted + 1) c.self.view_is)
    (c.add_grant.ensures ∙ ap (λ (v : ManagerView). record v.counters {
      granted = rises v.counters.granted 1;
      conversions = rises v.counters.conversions
          (one_if c.ne.result);
      passed = rises v.counters.passed (one_if c.raise_passes-passes.result);
    }) c.self.view_is
    ∙ sym (try_counted (state_of c.args.self.now) (state_of
    (record { table = c.try_lock.new.self; accepted = c.self.inside.accepted + 1; counters = c.add_grant.new.self })) c.args.t c.args.n
    c.in_ok-mode.mode c.args.mode c.ne.result c.raise_passes-passes.result c.args.self.now.counters (converts c) (passed c)))
    (subst (λ (v : ManagerView). KeepsOrders v.table c.try_lock.new.self) c.self.view_is c.in_ok-mode.ensures.orders)
