use Rattle.std.specs.Prelude.{◌≡◌, ◌∷◌, ◌+◌, Err, None, Ok, true, false}
use Rattle.std.proofs.Common.{ap, rules, subst, sym, ◌∙◌}
use Rattle.gl_graph.specs.Refusals.{first_refusal}
use Rattle.gl_model.specs.Calls.{asked_by_escalation}
use Rattle.gl_table.specs.Table.{state_of as table_state}
use Rattle.gl_table.proofs.calls.Calls.{test_passed}
use Rattle.gl_steps.specs.declared.command.Command.TheVariants as command
use Rattle.gl_steps.specs.declared.command.Escalated.{Escalated}
use Rattle.gl_catalog.specs.Counters.{one_if, passes_at, raise_passes, rises, with_notices}
use Rattle.gl_catalog.proofs.Passing.{read_passes}
use Rattle.gl_model.specs.State.{counting, lives}
use Rattle.gl_catalog.specs.Manager.{IsLawfulManager, ManagerView, state_of}
use Rattle.gl_catalog.specs.Replies.{CallSteps, rising}
use Rattle.gl_catalog.specs.Sound.{view_of}
use Rattle.gl_steps.specs.Tests.{escalate_asks, worn}
use Rattle.gl_catalog.proofs.Completed.{completed, escalation_counted}
use Rattle.gl_catalog.proofs.Raising.{asked_is, asks_err, raised_acting, reads, shed_step, tried_err}
use Rattle.gl_table.specs.Table.{KeepsOrders}
use Rattle.gl_table.proofs.inside.Places.{keeps_then}
use Rattle.gl_catalog.proofs.manager.Manager.escalate_telling.Goals.{After-add_notices, After-try_lock, then-writes_below, else-writes_below}
use Rattle.gl_catalog.proofs.manager.Manager.escalate_telling.Goals as goal

passed : (c : After-try_lock) → first_refusal (worn (state_of (view_of c.self.inside)) ∷ escalate_asks (state_of
    (view_of c.self.inside)) c.args.t c.args.n) ≡ None
passed c =
    subst (λ (v : ManagerView). first_refusal (worn (state_of v) ∷ escalate_asks (state_of v) c.args.t c.args.n) ≡ None) (sym c.self.view_is)
    (test_passed _ c.in_ok-check_escalate.field-0 c.in_ok-check_escalate.ensures)

asked : (c : After-try_lock) → c.if-writes_below.asked ≡ asked_by_escalation (table_state c.self.inside.table) c.args.t.slot c.args.n
asked c =
    elim c.if-writes_below.branch [
      | then-writes_below w ↦ w.asked-is ∙ asked_is (state_of (view_of c.self.inside)) c.args.t c.args.n (passed c) true (sym w.if-writes_below.true
          ∙ c.writes_below.ensures)
      | else-writes_below w ↦ w.asked-is ∙ asked_is (state_of (view_of c.self.inside)) c.args.t c.args.n (passed c) false (sym w.if-writes_below.false
          ∙ c.writes_below.ensures)
    ]

pub returns-in_err-check_escalate-clause-step : goal.returns-in_err-check_escalate-clause-step
returns-in_err-check_escalate-clause-step c =
    let is : c.from_residual.result ≡ Err c.in_err-check_escalate.field-0.0 = search rules in
    subst (λ r. CallSteps (state_of c.args.self.now) (command.Escalate c.args.t c.args.n) (rising c.args.told.now.items) r (state_of c.args.self.now)) (sym is)
    (asks_err (state_of c.args.self.now) c.args.t c.args.n c.in_err-check_escalate.field-0.0 c.in_err-check_escalate.ensures)

pub returns-in_err-mode-clause-step : goal.returns-in_err-mode-clause-step
returns-in_err-mode-clause-step c =
    let p = (goal.at.returns-in_err-mode-clause-step c).After-try_lock in
    let is : c.from_residual-in_err-mode.result ≡ Err c.in_err-mode.field-0.0 = search rules in
    coe 0 1 (i. CallSteps (state_of (c.self.view_is i)) (command.Escalate c.args.t c.args.n) (rising c.args.told.now.items) (sym is i)
    (counting c.self.inside.accepted (table_state (sym c.in_err-mode.ensures.err i))))
    (tried_err (state_of (view_of c.self.inside)) c.args.t c.args.n (passed p) c.self.invariant.lawful c.if-writes_below.asked
    (asked p) c.in_err-mode.field-0.0 c.in_err-mode.ensures.refuses c.in_err-mode.ensures.held)

pub shed_telling-released-requires-clause-acting : goal.shed_telling-released-requires-clause-acting
shed_telling-released-requires-clause-acting c =
    let p = (goal.at.shed_telling-released-requires-clause-acting c).After-try_lock in
    raised_acting c.self.inside.accepted (table_state c.self.inside.table) c.args.t c.args.n (passed p) c.if-writes_below.asked (asked p)
    (table_state c.try_lock.new.self) c.in_ok-mode.ensures.state

pub shed_telling-released-requires-clause-reads : goal.shed_telling-released-requires-clause-reads
shed_telling-released-requires-clause-reads c =
    let p = (goal.at.shed_telling-released-requires-clause-reads c).After-try_lock in
    reads c.self.inside.accepted (table_state c.self.inside.table) c.args.t c.args.n (passed p) c.if-writes_below.asked (asked p)
    (table_state c.try_lock.new.self) c.in_ok-mode.ensures.state

pub returns-clause-step : goal.returns-clause-step
returns-clause-step c =
    let p = (goal.at.returns-clause-step c).After-try_lock in
    subst (λ (v : ManagerView). CallSteps (state_of v) (command.Escalate c.args.t c.args.n) (rising c.shed_telling-released.new.notices.items) (Ok
    (record { mode = c.in_ok-mode.mode; released = c.shed_telling-released.result.0; kept = c.shed_telling-released.result.1 })) (counting
    (c.self.inside.accepted + 1) (table_state c.shed_telling-released.new.self))) c.self.view_is
    (shed_step c.self.inside.accepted (table_state c.self.inside.table) c.args.t c.args.n (passed p) c.if-writes_below.asked (asked p)
    (table_state c.try_lock.new.self) c.in_ok-mode.ensures.state
    c.self.invariant.lawful c.in_ok-mode.mode c.in_ok-mode.ensures.mode c.in_ok-mode.ensures.refuses c.shed_telling-released.result.0
    c.shed_telling-released.result.1 c.shed_telling-released.new.notices (table_state c.shed_telling-released.new.self)
    c.shed_telling-released.ensures.state c.shed_telling-released.ensures.released c.shed_telling-released.ensures.kept c.shed_telling-released.ensures.told)

-- whether it passed a waiter
raised : (c : After-add_notices) → c.raise_passes-passes.result ≡ passes_at (state_of c.args.self.now) c.args.t c.args.n
    (counting (c.self.inside.accepted + 1) (table_state c.shed_telling-released.new.self))
raised c =
    let s' = counting (c.self.inside.accepted + 1) (table_state c.shed_telling-released.new.self) in
    let s = state_of c.args.self.now in
    c.raise_passes-passes.ensures ∙ (λ i. raise_passes s' c.args.n (c.held_by-held.ensures i) (c.mode_at.ensures i))
    ∙ read_passes s' c.args.n (lives s c.args.t) (s.held c.args.t.slot c.args.n) (s'.held c.args.t.slot c.args.n)

pub returns-clause-completes : goal.returns-clause-completes
returns-clause-completes c =
    let told = c.shed_telling-released.new.notices.items in
    let did : Escalated = record { mode = c.in_ok-mode.mode; released = c.shed_telling-released.result.0; kept = c.shed_telling-released.result.1 } in
    completed c.args.self.now (record {
      table = c.shed_telling-released.new.self;
      accepted = c.self.inside.accepted + 1;
      counters = c.add_notices.new.self;
    }) (subst IsLawfulManager c.self.view_is c.self.invariant)
    (command.Escalate c.args.t c.args.n) (rising told did) (returns-clause-step c)
    (c.shed_telling-released.ensures.deadlock ∙ c.in_ok-mode.ensures.deadlock ∙ ap (λ (v : ManagerView). v.table.deadlock) c.self.view_is)
    (ap (λ (v : ManagerView). v.accepted + 1) c.self.view_is)
    (c.add_notices.ensures ∙ (λ i. with_notices (c.as_slice.ensures.value i) (c.add_escalation.ensures i))
    ∙ ap (λ (v : ManagerView). with_notices told
    (record v.counters {
      passed = rises v.counters.passed (one_if c.raise_passes-passes.result);
      escalations = rises v.counters.escalations 1;
      released_children = rises v.counters.released_children
          c.shed_telling-released.result.0;
    })) c.self.view_is
    ∙ sym (escalation_counted (state_of c.args.self.now) (state_of
    (record { table = c.shed_telling-released.new.self; accepted = c.self.inside.accepted + 1; counters = c.add_notices.new.self })) c.args.t c.args.n
    did told c.raise_passes-passes.result c.args.self.now.counters (raised c)))
    (subst (λ (v : ManagerView). KeepsOrders v.table c.shed_telling-released.new.self) c.self.view_is
    (record { each = λ u. keeps_then (c.in_ok-mode.ensures.orders.each u) (c.shed_telling-released.ensures.orders u) }))
