use Rattle.std.proofs.Common.{subst, ◌∙◌}
use Rattle.gl_modes.specs.declared.node.NodeId.{NodeId}
use Rattle.gl_model.specs.declared.txn.TxnId.{TxnId}
use Rattle.gl_steps.specs.declared.command.Command.TheVariants as command
use Rattle.gl_c.specs.managers.Carries.{Carries, command_call}
use Rattle.gl_c.specs.managers.Handle.{guarded_in}
use Rattle.gl_c.specs.Names.{node_id}
use Rattle.gl_c.proofs.Carrying.{under_few}
use Rattle.gl_c.proofs.graph.records.bs_call_move.Goals as goal

pub returns : goal.returns
returns c =
    under_few c.args.parents.now c.as_slice.result _ _ c.in-Some.ensures.few (c.as_slice.ensures.value ∙ c.in-Some.ensures.names)
    (subst (λ (t : TxnId). Carries (guarded_in c.args.manager.now) (command_call (command.Move t (node_id c.args.node) c.as_slice.result)) c.carry_out.result
    c.carry_out.new.told (guarded_in c.carry_out.new.self)) c.id.ensures.is
    (subst (λ (n : NodeId). Carries (guarded_in c.args.manager.now) (command_call (command.Move c.id.result n c.as_slice.result)) c.carry_out.result
    c.carry_out.new.told (guarded_in c.carry_out.new.self)) c.id-2.ensures c.carry_out.ensures))
