use Rattle.gl_graph.proofs.Words.{bounds_in, graph_of, intervals_in, length, shape_in_body, Some, subst, sym, ◌+◌, ◌<◌}
use Rattle.gl_graph.proofs.Beside.{held, law_of}
use Rattle.gl_graph.proofs.MergeGraph.{can_merge}
use Rattle.gl_graph.proofs.SoundMerge.{bound_there, index_contained, interval_there, merge_graph, merge_sound, next_contained}
use Rattle.gl_graph.proofs.graph.Graph.merge_unrefused.Goals as goal

pub remove-requires : goal.remove-requires
remove-requires c =
    next_contained (held c.self.inside c.self.invariant c.args.self.now c.self.view_is) (law_of c.self.inside c.self.invariant c.args.self.now c.self.view_is)
    c.args.interval (can_merge (graph_of c.args.self.now) c.args.interval c.requires) _ c.first_parent-index.ensures _ c.next_interval-next.ensures

pub remove_cut-requires-clause-there : goal.remove_cut-requires-clause-there
remove_cut-requires-clause-there c =
    index_contained (held c.self.inside c.self.invariant c.args.self.now c.self.view_is) (law_of c.self.inside c.self.invariant c.args.self.now c.self.view_is)
    c.args.interval (can_merge (graph_of c.args.self.now) c.args.interval c.requires) _ c.first_parent-index.ensures _ c.next_interval-next.ensures
    c.remove.ensures.updates c.remove.ensures.len

pub remove_cut-requires-clause-bounds : goal.remove_cut-requires-clause-bounds
remove_cut-requires-clause-bounds c w e =
    subst (λ p. p < length (bounds_in (Some (shape_in_body w.body)))) (sym c.place_in_index-place.ensures)
    (bound_there (held c.self.inside c.self.invariant c.args.self.now c.self.view_is) (law_of c.self.inside c.self.invariant c.args.self.now c.self.view_is)
    c.args.interval (can_merge (graph_of c.args.self.now) c.args.interval c.requires) _ c.first_parent-index.ensures _ c.next_interval-next.ensures
    c.remove.ensures.updates c.remove.ensures.len w e)

pub remove_cut-requires-clause-intervals : goal.remove_cut-requires-clause-intervals
remove_cut-requires-clause-intervals c w e =
    subst (λ p. p + 1 < length (intervals_in (Some (shape_in_body w.body)))) (sym c.place_in_index-place.ensures)
    (interval_there (held c.self.inside c.self.invariant c.args.self.now c.self.view_is) (law_of c.self.inside c.self.invariant c.args.self.now c.self.view_is)
    c.args.interval (can_merge (graph_of c.args.self.now) c.args.interval c.requires) _ c.first_parent-index.ensures _ c.next_interval-next.ensures
    c.remove.ensures.updates c.remove.ensures.len w e)

pub invariant_of-self : goal.invariant_of-self
invariant_of-self c =
    merge_sound (held c.self.inside c.self.invariant c.args.self.now c.self.view_is) (law_of c.self.inside c.self.invariant c.args.self.now c.self.view_is)
    c.args.interval (can_merge (graph_of c.args.self.now) c.args.interval c.requires) _ c.first_parent-index.ensures _ c.next_interval-next.ensures
    c.remove.ensures.updates c.remove.ensures.len
    _ c.place_in_index-place.ensures c.remove_cut.ensures.written c.remove_cut.ensures.len
    c.move_records.new.nodes _ c.place_in_file-index_place.ensures c.move_records.ensures.moved c.move_records.ensures.len

pub returns : goal.returns
returns c =
    merge_graph (held c.self.inside c.self.invariant c.args.self.now c.self.view_is) (law_of c.self.inside c.self.invariant c.args.self.now c.self.view_is)
    c.args.interval (can_merge (graph_of c.args.self.now) c.args.interval c.requires) _ c.first_parent-index.ensures _ c.next_interval-next.ensures
    c.remove.ensures.updates c.remove.ensures.len
    _ c.place_in_index-place.ensures c.remove_cut.ensures.written c.remove_cut.ensures.len
    c.move_records.new.nodes _ c.place_in_file-index_place.ensures c.move_records.ensures.moved c.move_records.ensures.len
