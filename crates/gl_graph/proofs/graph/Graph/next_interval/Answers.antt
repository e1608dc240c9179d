use Rattle.gl_graph.proofs.Words.{ap, arith, graph_of, intervals_in, length, rules, shape_of, ◌+◌, ◌<◌, ◌∙◌}
use Rattle.gl_graph.proofs.MergeGraph.{can_merge_by, high}
use Rattle.gl_graph.proofs.graph.Graph.next_interval.Goals as goal
use Rattle.gl_graph.proofs.graph.Graph.next_interval.Goals.{After-place_in_index-place}

within : (c : After-place_in_index-place) → c.place_in_index-place.result + 1 < length c.intervals-intervals.result.now
within c =
    let low = high (graph_of c.args.self.now) c.law.ensures.lawful c.args.interval (can_merge_by (graph_of c.args.self.now) c.args.interval c.requires) in
    let all = ap length (c.intervals-intervals.ensures ∙ ap (λ x. intervals_in (shape_of (graph_of c.args.self.now) x)) c.first_parent.ensures) in
    let place = c.place_in_index-place.ensures in
    omega arith

pub bounds-intervals-place : goal.bounds-intervals-place
bounds-intervals-place c = within c

pub overflow_add-result : goal.overflow_add-result
overflow_add-result c = let low = within c in search rules

pub offset_bounds-intervals-place : goal.offset_bounds-intervals-place
offset_bounds-intervals-place c = let low = within c in search rules
