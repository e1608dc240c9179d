use Rattle.std.proofs.Common.{Option, subst, sym, rules}
use Rattle.gl_modes.specs.declared.refusal.Refusal.{Refusal}
use Rattle.gl_model.specs.Calls.{RefusesOnly}
use Rattle.gl_catalog.specs.Manager.{state_of}
use Rattle.gl_catalog.proofs.Insertions.{record_refused}
use Rattle.gl_catalog.proofs.manager.Manager.check_insert.Goals as goal

pub returns-in_err-check_record-clause-refuses : goal.returns-in_err-check_record-clause-refuses
returns-in_err-check_record-clause-refuses c =
    subst (λ (o : Option Refusal). RefusesOnly o c.from_residual.result) (sym (record_refused
    (state_of c.args.self.now) c.args.t c.args.file c.args.keys.now c.in_err-check_record.field-0.0 c.in_err-check_record.ensures)) (search rules)
