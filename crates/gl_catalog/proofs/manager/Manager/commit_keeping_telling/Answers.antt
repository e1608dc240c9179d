use Rattle.std.specs.Prelude.{◌≡◌, ◌+◌, None, Option}
use Rattle.std.proofs.Common.{ap, refl, rules, subst, sym, ◌∙◌}
use Rattle.gl_modes.specs.declared.refusal.Refusal.{Refusal}
use Rattle.gl_graph.specs.Refusals.{first_refusal}
use Rattle.gl_graph.proofs.Unrefused.{not_refused}
use Rattle.gl_model.specs.Calls.{RefusesOnly, no_txn}
use Rattle.gl_table.proofs.calls.Calls.{test_passed}
use Rattle.gl_table.proofs.calls.Locking.{test_refused}
use Rattle.gl_steps.proofs.NotRefused.{txn_lives}
use Rattle.gl_catalog.specs.Counters.{with_notices}
use Rattle.gl_catalog.specs.Keeping.{CompletesKeeping, keeping_tests}
use Rattle.gl_catalog.specs.Manager.{ManagerView, state_of}
use Rattle.gl_catalog.specs.Savepoints.{count_since}
use Rattle.gl_catalog.specs.Sound.{view_of}
use Rattle.gl_catalog.proofs.GoingBack.{completes_keeping, count_decides, not_active}
use Rattle.gl_catalog.proofs.manager.Manager.commit_keeping_telling.Goals.{After-commit_keeping_telling}
use Rattle.gl_catalog.proofs.manager.Manager.commit_keeping_telling.Goals as goal

-- no test refuses it
passed : (c : After-commit_keeping_telling) → first_refusal (keeping_tests (view_of c.self.inside) c.args.t c.args.keep) ≡ None
passed c =
    subst (λ (v : ManagerView). first_refusal (keeping_tests v c.args.t c.args.keep) ≡ None) (sym c.self.view_is)
    (count_decides c.args.self.now c.args.t (count_since c.args.self.now c.args.t.slot c.args.keep + 1)
    (test_passed _ c.in_ok-check_active.field-0 c.in_ok-check_active.ensures)
    ∙ test_passed _ c.in_ok-check_count_keeping.field-0 c.in_ok-check_count_keeping.ensures)

pub returns-in_err-check_active-clause-refuses : goal.returns-in_err-check_active-clause-refuses
returns-in_err-check_active-clause-refuses c =
    subst (λ (o : Option Refusal). RefusesOnly o c.from_residual.result)
    (sym (not_active c.args.self.now c.args.t (count_since c.args.self.now c.args.t.slot c.args.keep + 1) c.in_err-check_active.field-0.0
    (test_refused _ c.in_err-check_active.field-0.0 c.in_err-check_active.ensures))) (search rules)

pub check_count_keeping-requires : goal.check_count_keeping-requires
check_count_keeping-requires c =
    let active = test_passed _ c.in_ok-check_active.field-0 c.in_ok-check_active.ensures in
    record { lives = txn_lives (state_of c.args.self.now) c.args.t (not_refused (no_txn (state_of c.args.self.now) c.args.t) _ active).0 }

pub returns-in_err-check_count_keeping-clause-refuses : goal.returns-in_err-check_count_keeping-clause-refuses
returns-in_err-check_count_keeping-clause-refuses c =
    subst (λ (o : Option Refusal). RefusesOnly o c.from_residual-in_err-check_count_keeping.result)
    (sym (count_decides c.args.self.now c.args.t (count_since c.args.self.now c.args.t.slot c.args.keep + 1)
    (test_passed _ c.in_ok-check_active.field-0 c.in_ok-check_active.ensures)
    ∙ test_refused _ c.in_err-check_count_keeping.field-0.0 c.in_err-check_count_keeping.ensures)) (search rules)

pub returns-clause-keeps : goal.returns-clause-keeps
returns-clause-keeps c =
    let p = (goal.at.returns-clause-keeps c).After-commit_keeping_telling in
    let is = c.in_ok-released.ensures in
    let list = c.commit_keeping_telling.new.notices.items in
    let after : ManagerView = record {
      table = c.commit_keeping_telling.new.self;
      accepted = c.self.inside.accepted + (c.in_ok-released.released + 1);
      counters = c.add_notices.new.self;
    } in
    subst (λ (v : ManagerView). CompletesKeeping c.args.t c.args.keep c.args.since v c.in_ok-released.next list after) c.self.view_is
    (completes_keeping (view_of c.self.inside) after c.args.t c.args.keep c.args.since c.in_ok-released.released c.in_ok-released.next
    c.self.invariant.lawful (passed p) is.keeps list refl is.told
    (c.add_notices.ensures ∙ ap (λ l. with_notices l c.self.inside.counters) c.as_slice.ensures.value) is.deadlock is.orders)
