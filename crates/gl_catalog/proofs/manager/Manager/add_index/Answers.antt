use Rattle.std.specs.Prelude.{Err, Ok, Option, Result, [], ◌∷◌}
use Rattle.std.proofs.Common.{◌+◌, ap, refl, rules, subst, sym, ◌≡◌, ◌∙◌}
use Rattle.gl_modes.specs.declared.node.NodeId.{NodeId}
use Rattle.gl_modes.specs.declared.refusal.Refusal.{Refusal}
use Rattle.gl_graph.specs.Refusals.{Refuses, index_refusal}
use Rattle.gl_table.specs.Table.{state_of as table_state}
use Rattle.gl_steps.specs.declared.command.Command.TheVariants as command
use Rattle.gl_model.specs.State.{counting}
use Rattle.gl_catalog.specs.Manager.{ManagerView, state_of}
use Rattle.gl_catalog.specs.Replies.{CallSteps, made}
use Rattle.gl_graph.proofs.FirstOf.{alone}
use Rattle.gl_catalog.proofs.Managed.{managed_err_or_memory, managed_ok}
use Rattle.gl_catalog.specs.Sound.{view_of}
use Rattle.gl_catalog.proofs.Completed.{quiet_completed}
use Rattle.gl_catalog.proofs.Uncounted.{raised_by_none}
use Rattle.gl_catalog.proofs.manager.Manager.add_index.Goals as goal

pub returns-in_err-node-clause-step : goal.returns-in_err-node-clause-step
returns-in_err-node-clause-step c =
    let is : c.from_residual-in_err-node.result ≡ Err c.in_err-node.field-0.0 = search rules in
    subst (λ (r : Result NodeId Refusal). CallSteps (state_of c.args.self.now) (command.Index c.args.parents c.args.file c.args.bounds) made r
    (counting c.self.inside.accepted (table_state c.add_index.new.self))) (sym is)
    (managed_err_or_memory made (command.Index c.args.parents c.args.file c.args.bounds) c.self.inside.table c.self.inside.accepted c.args.self.now
    c.self.view_is (index_refusal (table_state c.self.inside.table).graph c.args.parents.now c.args.file c.args.bounds.now ∷ []) refl
    c.in_err-node.field-0.0 c.add_index.new.self c.in_ok-check_count.ensures (λ _. refl) (subst (λ (o : Option Refusal). Refuses {T = NodeId} o
    (Err c.in_err-node.field-0.0)) (sym (alone _)) c.in_err-node.ensures.refuses) c.in_err-node.ensures.err)

pub returns-clause-step : goal.returns-clause-step
returns-clause-step c =
    managed_ok made (command.Index c.args.parents c.args.file c.args.bounds) c.self.inside.table c.self.inside.accepted c.args.self.now c.self.view_is
    (index_refusal (table_state c.self.inside.table).graph c.args.parents.now c.args.file c.args.bounds.now ∷ []) refl
    c.in_ok-node.node c.add_index.new.self c.in_ok-check_count.ensures (subst (λ (o : Option Refusal). Refuses {T = NodeId} o (Ok c.in_ok-node.node)) (sym
    (alone _)) c.in_ok-node.ensures.refuses) refl
    (c.in_ok-node.node, c.in_ok-node.ensures.made, refl, refl, ap (counting c.self.inside.accepted) c.in_ok-node.ensures.state)

pub returns-clause-completes : goal.returns-clause-completes
returns-clause-completes c =
    quiet_completed (view_of c.self.inside) c.args.self.now
    (record { table = c.add_index.new.self; accepted = c.self.inside.accepted + 1; counters = c.self.inside.counters }) c.self.view_is c.self.invariant
    (command.Index c.args.parents c.args.file c.args.bounds) refl c.in_ok-node.ensures.orders (made c.in_ok-node.node) (returns-clause-step c)
    (c.in_ok-node.ensures.deadlock
    ∙ ap (λ (v : ManagerView). v.table.deadlock) c.self.view_is) refl raised_by_none
