use Rattle.std.proofs.Common.{subst, ◌∙◌}
use Rattle.gl_modes.specs.declared.node.NodeId.{NodeId}
use Rattle.gl_steps.specs.declared.command.Command.TheVariants as command
use Rattle.gl_c.specs.managers.Carries.{Asks, command_call}
use Rattle.gl_c.specs.managers.Handle.{guarded_in}
use Rattle.gl_c.proofs.Carrying.{under_few}
use Rattle.gl_c.proofs.graph.nodes.bs_call_add_index.Goals as goal

pub returns-in-Some : goal.returns-in-Some
returns-in-Some c =
    under_few c.args.parents.now c.as_slice.result _ _ c.in-Some.ensures.few (c.as_slice.ensures.value ∙ c.in-Some.ensures.names)
    (subst (λ (n : NodeId). Asks (guarded_in c.args.manager.now) (command_call (command.Index c.as_slice.result n c.args.bounds)) c.ask.result
    (guarded_in c.ask.new.self)) c.id.ensures c.ask.ensures)
