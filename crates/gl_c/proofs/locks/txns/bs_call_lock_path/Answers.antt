use Rattle.std.proofs.Common.{subst, sym, ◌∙◌}
use Rattle.gl_modes.specs.declared.node.NodeId.{NodeId}
use Rattle.gl_model.specs.declared.txn.TxnId.{TxnId}
use Rattle.gl_c.specs.locks.Paths.{path_call}
use Rattle.gl_c.specs.managers.Carries.{Carries}
use Rattle.gl_c.specs.managers.Handle.{guarded_in}
use Rattle.gl_c.specs.Names.{node_id}
use Rattle.gl_c.specs.Numbers.{mode_at}
use Rattle.gl_c.proofs.Carrying.{where_some}
use Rattle.gl_c.proofs.locks.txns.bs_call_lock_path.Goals as goal

pub returns : goal.returns
returns c =
    where_some (mode_at c.args.mode) c.in-Some.mode _ _ (sym c.mode_at.ensures ∙ c.in-Some.is)
    (subst (λ (t : TxnId). Carries (guarded_in c.args.manager.now) (path_call t
    (node_id c.args.node, c.in-Some.mode)) c.lock_path.result c.lock_path.new.told
    (guarded_in c.lock_path.new.self)) c.id.ensures.is
    (subst (λ (n : NodeId). Carries (guarded_in c.args.manager.now) (path_call c.id.result
    (n, c.in-Some.mode)) c.lock_path.result c.lock_path.new.told
    (guarded_in c.lock_path.new.self)) c.id-2.ensures c.lock_path.ensures))
