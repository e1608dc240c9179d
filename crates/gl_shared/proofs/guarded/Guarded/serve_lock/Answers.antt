use Rattle.gl_shared.proofs.LockCovers.{answer_covers}
use Rattle.gl_shared.proofs.guarded.Guarded.serve_lock.Goals as goal

pub returns-clause-covers : goal.returns-clause-covers
returns-clause-covers g c = answer_covers _ c.law.ensures.manager.lawful c.args.txn c.args.node c.args.mode _ _ c.serve_telling.result.0
    c.serve_telling.ensures.serves.step
