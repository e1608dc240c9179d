use Rattle.std.proofs.Common.{inl, inr, refl, subst, ◌∙◌}
use Rattle.std.specs.Prelude.{List, map}
use denote.Bor.{Bor}
use Rattle.gl_modes.specs.declared.node.NodeId.{NodeId}
use Rattle.gl_model.specs.declared.txn.TxnId.{TxnId}
use Rattle.gl_steps.specs.declared.command.Command.TheVariants as command
use Rattle.gl_c.specs.managers.Carries.{Asks, command_call}
use Rattle.gl_c.specs.managers.Handle.{guarded_in}
use Rattle.gl_c.specs.Names.{node_id}
use Rattle.gl_c.proofs.Carrying.{under_few}
use Rattle.gl_c.proofs.graph.schema.bs_call_index_by.Goals as goal

pub returns-in_default-node_ids : goal.returns-in_default-node_ids
returns-in_default-node_ids c =
    let ids : Bor (List NodeId) = record { ref_ptr = c.args.parents.ref_ptr; now = map node_id c.args.parents.now } in
    under_few c.args.parents.now ids _ _ c.in-Some.ensures.few refl (inr (record { replied = c.with_status-in_default-node_ids.ensures; same = refl }))

pub returns : goal.returns
returns c =
    under_few c.args.parents.now c.as_slice.result _ _ c.in-Some.ensures.few (c.as_slice.ensures.value ∙ c.in-Some.ensures.names)
    (inl (
      c.as_slice-2.result,
      c.as_slice-2.ensures.value ∙ c.in-Ok.ensures,
      subst (λ (t : TxnId). Asks (guarded_in c.args.manager.now) (command_call (command.IndexBy t c.as_slice.result
          (node_id c.args.file) c.args.bounds c.as_slice-2.result c.args.keys)) c.ask.result
          (guarded_in c.ask.new.self)) c.id.ensures.is
          (subst (λ (n : NodeId). Asks (guarded_in c.args.manager.now) (command_call (command.IndexBy c.id.result c.as_slice.result n c.args.bounds
          c.as_slice-2.result c.args.keys)) c.ask.result
          (guarded_in c.ask.new.self)) c.id-2.ensures c.ask.ensures),
    ))
