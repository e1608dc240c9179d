use Rattle.gl_graph.proofs.Words.{ap, arith, bounds_in, graph_of, length, shape_of, ◌∙◌}
use Rattle.gl_graph.proofs.Around.{place_low}
use Rattle.gl_graph.proofs.graph.Graph.is_bad_bound.Goals as goal

pub is_between-requires : goal.is_between-requires
is_between-requires c =
    let low = place_low (graph_of c.args.self.now) c.law.ensures.lawful c.args.interval c.requires.interval in
    let bounds = ap length (c.bounds-bounds.ensures ∙ ap (λ x. bounds_in (shape_of (graph_of c.args.self.now) x)) c.first_parent.ensures) in
    let place = c.place_in_index-place.ensures in
    omega arith
