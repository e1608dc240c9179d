use Rattle.gl_graph.proofs.Words.{ap, ap₂, arith, graph_of, length, refl, rules, sym, ◌+◌, ◌∙◌}
use Rattle.std.specs.List.{insert}
use Rattle.gl_graph.proofs.Beside.{held, law_of}
use Rattle.gl_graph.proofs.SoundSplit.{index_contained, index_is, place_of_bound, place_of_interval, split_made, split_sound}
use Rattle.gl_graph.proofs.SplitGraph.{can_split}
use Rattle.gl_graph.proofs.graph.Graph.split_unrefused.Goals as goal

pub place_in_file-index_place-requires : goal.place_in_file-index_place-requires
place_in_file-index_place-requires c =
    index_is (held c.self.inside c.self.invariant c.args.self.now c.self.view_is) (law_of c.self.inside c.self.invariant c.args.self.now c.self.view_is)
    c.args.interval c.args.bound (can_split (graph_of c.args.self.now) c.args.interval c.args.bound c.requires) _ c.first_parent-index.ensures

pub with_bound-requires : goal.with_bound-requires
with_bound-requires c =
    let low = place_of_bound (held c.self.inside c.self.invariant c.args.self.now c.self.view_is)
    (law_of c.self.inside c.self.invariant c.args.self.now c.self.view_is)
    c.args.interval c.args.bound (can_split (graph_of c.args.self.now) c.args.interval c.args.bound c.requires) _ c.first_parent-index.ensures in
    let bounds = ap length c.bounds.ensures in
    let place = c.place_in_index-place.ensures in
    omega arith

pub overflow_add-place : goal.overflow_add-place
overflow_add-place c =
    let low = place_of_interval (held c.self.inside c.self.invariant c.args.self.now c.self.view_is)
    (law_of c.self.inside c.self.invariant c.args.self.now c.self.view_is)
    c.args.interval c.args.bound (can_split (graph_of c.args.self.now) c.args.interval c.args.bound c.requires) _ c.first_parent-index.ensures in
    let intervals = ap length c.intervals.ensures in
    let place = c.place_in_index-place.ensures in
    search rules

pub with_interval-requires : goal.with_interval-requires
with_interval-requires c =
    let low = place_of_interval (held c.self.inside c.self.invariant c.args.self.now c.self.view_is)
    (law_of c.self.inside c.self.invariant c.args.self.now c.self.view_is)
    c.args.interval c.args.bound (can_split (graph_of c.args.self.now) c.args.interval c.args.bound c.requires) _ c.first_parent-index.ensures in
    let intervals = ap length c.intervals.ensures in
    let place = c.place_in_index-place.ensures in
    omega arith

pub write_cuts-requires : goal.write_cuts-requires
write_cuts-requires c =
    index_contained (held c.self.inside c.self.invariant c.args.self.now c.self.view_is) (law_of c.self.inside c.self.invariant c.args.self.now c.self.view_is)
    c.args.interval c.args.bound (can_split (graph_of c.args.self.now) c.args.interval c.args.bound c.requires) _ c.first_parent-index.ensures
    _ c.in-Ok-insert.ensures.was_vacant c.in-Ok-insert.ensures.updates c.in-Ok-insert.ensures.len

pub invariant_of-self-2 : goal.invariant_of-self-2
invariant_of-self-2 c =
    split_sound (held c.self.inside c.self.invariant c.args.self.now c.self.view_is) (law_of c.self.inside c.self.invariant c.args.self.now c.self.view_is)
    c.args.interval c.args.bound (can_split (graph_of c.args.self.now) c.args.interval c.args.bound c.requires) _ c.first_parent-index.ensures
    _ c.in-Ok-insert.ensures.was_vacant c.in-Ok-insert.ensures.updates c.in-Ok-insert.ensures.len
    _ (c.in-Ok.ensures ∙ ap₂ (λ bs p. insert bs p c.args.bound) c.bounds.ensures c.place_in_index-place.ensures)
    (record { key = c.vacant_key.result; birth = c.self.inside.births + 1 }) (c.vacant_key.ensures.value ∙ sym c.in-Ok-insert.ensures.key) refl
    _ (c.in-Ok-with_interval.ensures
    ∙ ap₂ (λ is p. insert is (p + 1) (record { key = c.vacant_key.result; birth = c.self.inside.births + 1 })) c.intervals.ensures
    c.place_in_index-place.ensures)
    c.write_cuts.ensures.written c.write_cuts.ensures.len
    c.move_records.new.nodes _ c.place_in_file-index_place.ensures c.move_records.ensures.moved c.move_records.ensures.len

pub returns-clause-made : goal.returns-clause-made
returns-clause-made c =
    split_made (held c.self.inside c.self.invariant c.args.self.now c.self.view_is) (law_of c.self.inside c.self.invariant c.args.self.now c.self.view_is)
    c.args.interval c.args.bound (can_split (graph_of c.args.self.now) c.args.interval c.args.bound c.requires) _ c.first_parent-index.ensures
    _ c.in-Ok-insert.ensures.was_vacant c.in-Ok-insert.ensures.updates c.in-Ok-insert.ensures.len
    _ (c.in-Ok.ensures ∙ ap₂ (λ bs p. insert bs p c.args.bound) c.bounds.ensures c.place_in_index-place.ensures)
    (record { key = c.vacant_key.result; birth = c.self.inside.births + 1 }) (c.vacant_key.ensures.value ∙ sym c.in-Ok-insert.ensures.key) refl
    _ (c.in-Ok-with_interval.ensures
    ∙ ap₂ (λ is p. insert is (p + 1) (record { key = c.vacant_key.result; birth = c.self.inside.births + 1 })) c.intervals.ensures
    c.place_in_index-place.ensures)
    c.write_cuts.ensures.written c.write_cuts.ensures.len
    c.move_records.new.nodes _ c.place_in_file-index_place.ensures c.move_records.ensures.moved c.move_records.ensures.len
