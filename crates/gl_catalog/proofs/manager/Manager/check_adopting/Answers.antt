use Rattle.std.proofs.Common.{Option, subst, sym, rules}
use Rattle.gl_modes.specs.declared.refusal.Refusal.{Refusal}
use Rattle.gl_model.specs.Calls.{RefusesOnly}
use Rattle.gl_table.proofs.calls.Calls.{test_passed}
use Rattle.gl_table.proofs.calls.Locking.{test_refused}
use Rattle.gl_catalog.specs.Manager.{state_of}
use Rattle.gl_catalog.proofs.Adopting.{row_refused}
use Rattle.gl_catalog.proofs.manager.Manager.check_adopting.Goals as goal

pub returns-in_err-check_row-clause-refuses : goal.returns-in_err-check_row-clause-refuses
returns-in_err-check_row-clause-refuses c =
    subst (λ (o : Option Refusal). RefusesOnly o c.from_residual-in_err-check_row.result)
    (sym (row_refused (state_of c.args.self.now) c.args.t c.args.file c.args.keys.now c.args.mode
    (test_passed _ c.in_ok-check_count_twice.field-0 c.in_ok-check_count_twice.ensures)
    (test_passed _ c.in_ok-check_active.field-0 c.in_ok-check_active.ensures) c.in_err-check_row.field-0.0
    (test_refused _ c.in_err-check_row.field-0.0 c.in_err-check_row.ensures))) (search rules)
