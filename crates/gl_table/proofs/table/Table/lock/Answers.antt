use Rattle.gl_table.proofs.Words.{rules, state_of}
use Rattle.gl_table.proofs.calls.Queries.{lock_goes_as, lock_refused_as}
use Rattle.gl_table.proofs.table.Table.lock.Goals as goal

pub returns-in_err-locked-clause-refuses : goal.returns-in_err-locked-clause-refuses
returns-in_err-locked-clause-refuses c =
    lock_refused_as (state_of c.args.self.now) c.args.t c.args.n c.args.mode _ _ c.in_err-locked.field-0.0 c.from_residual.result (search rules)
    c.in_err-locked.ensures.refuses

pub returns-clause-refuses : goal.returns-clause-refuses
returns-clause-refuses c = lock_goes_as (state_of c.args.self.now) c.args.t c.args.n c.args.mode c.in_ok-locked.locked _ c.in_ok-locked.ensures.refuses
