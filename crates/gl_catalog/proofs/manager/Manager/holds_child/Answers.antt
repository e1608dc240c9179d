use Rattle.std.specs.Prelude.{Bool, Some, None, nat_lt, ◌&&◌, ◌≡◌, if◌then◌else◌}
use Rattle.std.proofs.Common.{ap, ap₂, sym, ◌∙◌}
use Rattle.gl_modes.proofs.Words.{some_is}
use Rattle.gl_modes.specs.declared.node.NodeId.{NodeId}
use Rattle.gl_graph.proofs.Beside.{any_counted}
use Rattle.gl_graph.specs.Graph.{is_child, nodes}
use Rattle.gl_header.specs.Header.{holds}
use Rattle.gl_model.specs.Calls.{held_children}
use Rattle.gl_model.specs.State.{State, members}
use Rattle.gl_catalog.specs.Manager.{state_of}
use Rattle.gl_catalog.proofs.manager.Manager.holds_child.Goals as goal

pub returns-in-Some : goal.returns-in-Some
returns-in-Some c =
    let s : State = state_of c.args.self.now in
    let count : c.in-Some.count ≡ held_children s c.args.t.slot c.args.n =
    some_is (sym c.in-Some.is ∙ c.children.ensures
    ∙ ap₂ (λ (a b : Bool). if a && b then Some (held_children s c.args.t.slot c.args.n) else None) c.requires.txn c.requires.held) in
    ap (nat_lt 0) count ∙ any_counted (λ (q : NodeId). is_child s.graph c.args.n q && holds (members s q) c.args.t.slot) (nodes s.graph)
