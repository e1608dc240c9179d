use Rattle.std.specs.Prelude.{Ok, Option, [], ◌∷◌}
use Rattle.std.proofs.Common.{◌+◌, ap, refl, subst, sym, ◌∙◌}
use Rattle.gl_modes.specs.declared.node.NodeId.{NodeId}
use Rattle.gl_modes.specs.declared.refusal.Refusal.{Refusal}
use Rattle.gl_graph.specs.Refusals.{Refuses, inner_refusal}
use Rattle.gl_table.specs.Table.{state_of as table_state}
use Rattle.gl_steps.specs.declared.command.Command.TheVariants as command
use Rattle.gl_model.specs.State.{counting}
use Rattle.gl_catalog.specs.Manager.{ManagerView}
use Rattle.gl_catalog.specs.Replies.{made}
use Rattle.gl_graph.proofs.FirstOf.{alone}
use Rattle.gl_catalog.proofs.Managed.{managed_ok}
use Rattle.gl_catalog.specs.Sound.{view_of}
use Rattle.gl_catalog.proofs.Completed.{quiet_completed}
use Rattle.gl_catalog.proofs.Uncounted.{raised_by_none}
use Rattle.gl_catalog.proofs.manager.Manager.add_inner.Goals as goal

pub returns-clause-step : goal.returns-clause-step
returns-clause-step c =
    managed_ok made (command.Inner c.args.parents) c.self.inside.table c.self.inside.accepted c.args.self.now c.self.view_is (inner_refusal
    (table_state c.self.inside.table).graph c.args.parents.now ∷ []) refl
    c.in_ok-node.node c.add_inner.new.self c.in_ok-check_count.ensures (subst (λ (o : Option Refusal). Refuses {T = NodeId} o (Ok c.in_ok-node.node)) (sym
    (alone _)) c.in_ok-node.ensures.refuses) refl
    (c.in_ok-node.node, c.in_ok-node.ensures.made, refl, refl, ap (counting c.self.inside.accepted) c.in_ok-node.ensures.state)

pub returns-clause-completes : goal.returns-clause-completes
returns-clause-completes c =
    quiet_completed (view_of c.self.inside) c.args.self.now
    (record { table = c.add_inner.new.self; accepted = c.self.inside.accepted + 1; counters = c.self.inside.counters }) c.self.view_is c.self.invariant
    (command.Inner c.args.parents) refl c.in_ok-node.ensures.orders (made c.in_ok-node.node) (returns-clause-step c) (c.in_ok-node.ensures.deadlock
    ∙ ap (λ (v : ManagerView). v.table.deadlock) c.self.view_is) refl raised_by_none
