use Rattle.gl_graph.proofs.Words.{ap, ap₂, arith, bounds_in, graph_of, interval_place, intervals_in, IsRising, length, no_node, shape_in, slice_index_or, subst}
use Rattle.gl_graph.proofs.Words.{sym, ◌∙◌}
use Rattle.gl_graph.proofs.Beside.{index_stored}
use Rattle.gl_graph.proofs.graph.Graph.interval_of.Goals as goal

pub interval_place-requires : goal.interval_place-requires
interval_place-requires c =
    let index = index_stored (graph_of c.args.self.now) c.node.ensures.lawful c.args.index c.in-Some.node.now c.in-Some.ensures.node c.requires in
    subst IsRising (sym c.bounds.ensures) index.1.rising.1

pub bounds-intervals-interval_place : goal.bounds-intervals-interval_place
bounds-intervals-interval_place c =
    let index = index_stored (graph_of c.args.self.now) c.node.ensures.lawful c.args.index c.in-Some.node.now c.in-Some.ensures.node c.requires in
    let count = index.1.count in
    let is = ap length c.intervals.ensures in
    let bs = ap length c.bounds.ensures in
    let low = c.interval_place.ensures.within in
    omega arith

pub returns : goal.returns
returns c =
    ap₂ (λ is place. slice_index_or is place no_node) (c.intervals.ensures ∙ ap (λ o. intervals_in (shape_in o)) c.in-Some.ensures.node)
    (c.interval_place.ensures.place
    ∙ ap (λ bs. interval_place bs c.args.key) (c.bounds.ensures ∙ ap (λ o. bounds_in (shape_in o)) c.in-Some.ensures.node))
