use Rattle.gl_c.specs.managers.Handle.{guarded_in}
use Rattle.gl_c.specs.Names.{txn_id}
use Rattle.gl_c.proofs.ListedRows.{rows_in}
use Rattle.gl_c.proofs.questions.listings.bs_call_lock_at.Goals as goal

pub returns-clause-rows : goal.returns-clause-rows
returns-clause-rows c = rows_in (guarded_in c.args.manager.now) (txn_id c.args.txn).slot c.look.ensures.law
