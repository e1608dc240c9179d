use Rattle.gl_table.proofs.Words.{first_refusal, rules, state_of, unlock_tests}
use Rattle.gl_table.proofs.calls.Queries.{refuses_only_as}
use Rattle.gl_table.proofs.table.Table.unlock.Goals as goal

pub returns-in_err-unlock_telling-clause-refuses : goal.returns-in_err-unlock_telling-clause-refuses
returns-in_err-unlock_telling-clause-refuses c =
    refuses_only_as _ (first_refusal (unlock_tests (state_of c.args.self.now) c.args.t c.args.n)) c.in_err-unlock_telling.field-0.0 c.from_residual.result
    (search rules) c.in_err-unlock_telling.ensures.refuses
