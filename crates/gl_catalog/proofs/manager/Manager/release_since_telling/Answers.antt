use Rattle.std.specs.Prelude.{◌≡◌, ◌+◌, None, Option}
use Rattle.std.proofs.Common.{ap, refl, rules, subst, sym, ◌∙◌}
use Rattle.gl_modes.proofs.Words.{none_some}
use Rattle.gl_modes.specs.declared.refusal.Refusal.{Refusal}
use Rattle.gl_graph.specs.Refusals.{first_refusal}
use Rattle.gl_graph.proofs.Unrefused.{not_refused}
use Rattle.gl_model.specs.Calls.{RefusesOnly, commit_tests, no_txn}
use Rattle.gl_table.proofs.calls.Calls.{test_passed}
use Rattle.gl_table.proofs.calls.Locking.{test_refused}
use Rattle.gl_steps.proofs.NotRefused.{txn_lives}
use Rattle.gl_catalog.specs.Counters.{with_notices}
use Rattle.gl_catalog.specs.Manager.{ManagerView, state_of}
use Rattle.gl_catalog.specs.Savepoints.{TakesBack, back_tests, count_since}
use Rattle.gl_catalog.specs.Sound.{view_of}
use Rattle.gl_catalog.proofs.GoingBack.{count_decides, not_active, takes_back}
use Rattle.gl_catalog.proofs.Insertions.{refused_so}
use Rattle.gl_table.specs.Table.{KeepsOrders}
use Rattle.gl_catalog.proofs.manager.Manager.release_since_telling.Goals.{After-release_since_telling}
use Rattle.gl_catalog.proofs.manager.Manager.release_since_telling.Goals as goal

-- no test refuses it
passed : (c : After-release_since_telling) → first_refusal (back_tests (view_of c.self.inside) c.args.t c.args.mark) ≡ None
passed c =
    subst (λ (v : ManagerView). first_refusal (back_tests v c.args.t c.args.mark) ≡ None) (sym c.self.view_is)
    (count_decides c.args.self.now c.args.t (count_since c.args.self.now c.args.t.slot c.args.mark)
    (test_passed _ c.in_ok-check_active.field-0 c.in_ok-check_active.ensures)
    ∙ test_passed _ c.in_ok-check_count_since.field-0 c.in_ok-check_count_since.ensures)

pub returns-in_err-check_active-clause-refuses : goal.returns-in_err-check_active-clause-refuses
returns-in_err-check_active-clause-refuses c =
    subst (λ (o : Option Refusal). RefusesOnly o c.from_residual.result)
    (sym (not_active c.args.self.now c.args.t (count_since c.args.self.now c.args.t.slot c.args.mark) c.in_err-check_active.field-0.0
    (test_refused _ c.in_err-check_active.field-0.0 c.in_err-check_active.ensures))) (search rules)

pub check_count_since-requires : goal.check_count_since-requires
check_count_since-requires c =
    let active = test_passed _ c.in_ok-check_active.field-0 c.in_ok-check_active.ensures in
    record { lives = txn_lives (state_of c.args.self.now) c.args.t (not_refused (no_txn (state_of c.args.self.now) c.args.t) _ active).0 }

pub returns-in_err-check_count_since-clause-refuses : goal.returns-in_err-check_count_since-clause-refuses
returns-in_err-check_count_since-clause-refuses c =
    subst (λ (o : Option Refusal). RefusesOnly o c.from_residual-in_err-check_count_since.result)
    (sym (count_decides c.args.self.now c.args.t (count_since c.args.self.now c.args.t.slot c.args.mark)
    (test_passed _ c.in_ok-check_active.field-0 c.in_ok-check_active.ensures)
    ∙ test_refused _ c.in_err-check_count_since.field-0.0 c.in_err-check_count_since.ensures)) (search rules)

pub returns-in_err-released-clause-refuses : goal.returns-in_err-released-clause-refuses
returns-in_err-released-clause-refuses c =
    let active : first_refusal (commit_tests (state_of (view_of c.self.inside)) c.args.t) ≡ None =
    subst (λ (v : ManagerView). first_refusal (commit_tests (state_of v) c.args.t) ≡ None) (sym c.self.view_is)
    (test_passed _ c.in_ok-check_active.field-0 c.in_ok-check_active.ensures) in
    absurd (none_some (sym active ∙ refused_so _ _ c.in_err-released.field-0.0 c.in_err-released.ensures.refuses))

pub returns-clause-back : goal.returns-clause-back
returns-clause-back c =
    let p = (goal.at.returns-clause-back c).After-release_since_telling in
    let back = c.in_ok-released.ensures.back in
    let after : ManagerView = record {
      table = c.release_since_telling.new.self;
      accepted = c.self.inside.accepted + c.in_ok-released.released;
      counters = c.add_notices.new.self;
    } in
    subst (λ (v : ManagerView). TakesBack c.args.t c.args.mark c.in_ok-released.released v c.release_since_telling.new.notices.items after) c.self.view_is
    (takes_back (view_of c.self.inside) c.args.t c.args.mark (passed p) after c.self.invariant.lawful back.0 back.1 c.in_ok-released.released
    c.release_since_telling.new.notices.items back.2 refl c.in_ok-released.ensures.told
    (c.add_notices.ensures ∙ ap (λ list. with_notices list c.self.inside.counters) c.as_slice.ensures.value) c.in_ok-released.ensures.deadlock)

pub returns-clause-orders : goal.returns-clause-orders
returns-clause-orders c = subst (λ (v : ManagerView). KeepsOrders v.table c.release_since_telling.new.self) c.self.view_is c.in_ok-released.ensures.orders
