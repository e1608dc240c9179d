use Rattle.gl_graph.proofs.Words.{ap, graph_of, IsLawfulGraph, option_copied, subst, View, with_all, ◌∙◌}
use Rattle.gl_graph.proofs.Climb.{climb_more, finds_routes, lent_at, never}
use Rattle.gl_graph.proofs.graph.Graph.climbs.Goals as goal

pub loop-node-preserved : goal.loop-node-preserved
loop-node-preserved c =
    let found = c.loop-node.found.keys in
    let lent = lent_at found c.as_slice.result.now c.loop-node.at c.get.result c.as_slice.ensures.keys c.get.ensures.lookup in
    climb_more (graph_of c.args.self.now) never c.args.from found c.add_missing.new.found.keys c.loop-node.at c.in-Some.field-0.now
    (lent ∙ ap option_copied c.in-Some.is) c.loop-node.invariant (c.in_ok-add_missing.ensures ∙ ap (with_all found) c.parents.ensures)

pub returns : goal.returns
returns c =
    let found = c.loop-node.found.keys in
    let lent = lent_at found c.as_slice.result.now c.loop-node.at c.get.result c.as_slice.ensures.keys c.get.ensures.lookup in
    c.contains.ensures
    ∙ finds_routes (graph_of c.args.self.now)
    (subst (λ (v : View). IsLawfulGraph (graph_of v)) c.self.view_is c.self.invariant.lawful) c.args.from c.args.target found c.loop-node.at c.requires
    (lent ∙ ap option_copied c.in_default.is) c.loop-node.invariant
