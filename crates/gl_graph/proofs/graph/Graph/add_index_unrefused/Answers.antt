use Rattle.gl_graph.proofs.Words.{[], ap, arith, graph_of, Index, indexes_of, is_some, List, NodeId, refl, View, ◌++◌, ◌+◌, ◌∙◌, ◌∷◌}
use Rattle.gl_graph.proofs.Beside.{held, law_of}
use Rattle.gl_graph.proofs.Indexed.{roomy_sound, roomy_view, roomy, births_left, index_apart}
use Rattle.gl_graph.proofs.Indexed.{index_within, file_kept, index_parents, can_be_keyed, over_made, over_sound}
use Rattle.gl_graph.proofs.OverGraph.{keys_many, over_unrefused}
use Rattle.gl_graph.proofs.OverStored.{records_ready}
use Rattle.gl_graph.proofs.graph.Graph.add_index_unrefused.Goals as goal

pub invariant_of-self : goal.invariant_of-self
invariant_of-self c = roomy_sound c.self.inside c.self.invariant c.reserve.new.self c.reserve.ensures.rest_kept

pub invariant_of-self-2 : goal.invariant_of-self-2
invariant_of-self-2 c = roomy_sound c.self.inside c.self.invariant c.reserve.new.self c.reserve.ensures.rest_kept

pub invariant_of-self-in_default-new : goal.invariant_of-self-in_default-new
invariant_of-self-in_default-new c = roomy_sound c.self.inside c.self.invariant c.reserve.new.self c.reserve.ensures.rest_kept

pub overflow_add-self : goal.overflow_add-self
overflow_add-self c =
    let low = births_left (held c.self.inside c.self.invariant c.args.self.now c.self.view_is)
    (law_of c.self.inside c.self.invariant c.args.self.now c.self.view_is) c.args.parents.now c.args.file c.args.bounds.now
    c.args.records.now c.args.keys.now c.requires in
    omega arith

pub insert_intervals-requires-clause-apart : goal.insert_intervals-requires-clause-apart
insert_intervals-requires-clause-apart c =
    index_apart (roomy c.self.inside c.self.invariant c.args.self.now c.self.view_is c.reserve.new.self c.reserve.ensures.rest_kept)
    (law_of c.self.inside c.self.invariant c.args.self.now c.self.view_is) _ _
    c.insert_reserved-key.ensures.was_vacant c.insert_reserved-key.ensures.updates refl c.insert_reserved-key.ensures.len

pub insert_intervals-requires-clause-within : goal.insert_intervals-requires-clause-within
insert_intervals-requires-clause-within c =
    index_within (roomy c.self.inside c.self.invariant c.args.self.now c.self.view_is c.reserve.new.self c.reserve.ensures.rest_kept)
    (law_of c.self.inside c.self.invariant c.args.self.now c.self.view_is) _ _
    c.insert_reserved-key.ensures.was_vacant c.insert_reserved-key.ensures.updates refl c.insert_reserved-key.ensures.len

pub write_indexes-requires : goal.write_indexes-requires
write_indexes-requires c =
    let made = c.in-Ok-new.ensures.made in
    file_kept (roomy c.self.inside c.self.invariant c.args.self.now c.self.view_is c.reserve.new.self c.reserve.ensures.rest_kept)
    (law_of c.self.inside c.self.invariant c.args.self.now c.self.view_is) _ _
    c.insert_reserved-key.ensures.was_vacant c.insert_reserved-key.ensures.updates refl c.insert_reserved-key.ensures.len _ _ _
    (λ i. Index (made.file_is i) (made.bounds i) (made.unlisted i)) made.parents c.args.records.now c.args.keys.now
    (over_unrefused (graph_of c.args.self.now) _ _ _ _ _ c.requires)
    _ _ c.insert_intervals.ensures.born _ refl _ c.write_intervals.ensures.written c.write_intervals.ensures.len

pub count_up-requires : goal.count_up-requires
count_up-requires c =
    let made = c.in-Ok-new.ensures.made in
    let listed = c.push_reserved.ensures.items
    ∙ ap (λ (is : List NodeId). is ++ record { key = c.insert_reserved-key.result; birth = c.self.inside.births + 1 } ∷ [])
    (made.indexes ∙ c.indexes-listed.ensures ∙ ap (λ (v : View). indexes_of (graph_of v) c.args.file)
    (roomy_view c.self.inside c.args.self.now c.self.view_is c.reserve.new.self c.reserve.ensures.rest_kept)) in
    let kept = index_parents (roomy c.self.inside c.self.invariant c.args.self.now c.self.view_is c.reserve.new.self c.reserve.ensures.rest_kept)
    (law_of c.self.inside c.self.invariant c.args.self.now c.self.view_is) _ _
    c.insert_reserved-key.ensures.was_vacant c.insert_reserved-key.ensures.updates refl c.insert_reserved-key.ensures.len _ _ _
    (λ i. Index (made.file_is i) (made.bounds i) (made.unlisted i)) made.parents c.args.records.now c.args.keys.now
    (over_unrefused (graph_of c.args.self.now) _ _ _ _ _ c.requires)
    _ _ c.insert_intervals.ensures.born _ refl _ c.write_intervals.ensures.written c.write_intervals.ensures.len
    _ listed _ c.write_indexes.ensures.written c.write_indexes.ensures.len in
    record { stored = kept.stored; room = kept.each }

pub keyed_bodies-requires-clause-stored : goal.keyed_bodies-requires-clause-stored
keyed_bodies-requires-clause-stored c =
    let may = over_unrefused (graph_of c.args.self.now) _ _ _ _ _ c.requires in
    records_ready (graph_of c.args.self.now) (law_of c.self.inside c.self.invariant c.args.self.now c.self.view_is) c.args.file c.args.records.now
    c.args.keys.now may.named (roomy c.self.inside c.self.invariant c.args.self.now c.self.view_is c.reserve.new.self c.reserve.ensures.rest_kept)
    (λ r named. refl) may.file may.indexes

pub keyed_bodies-requires-clause-each : goal.keyed_bodies-requires-clause-each
keyed_bodies-requires-clause-each c =
    keys_many (graph_of c.args.self.now) c.args.file c.args.records.now c.args.keys.now
    (over_unrefused (graph_of c.args.self.now) _ _ _ _ _ c.requires).named

pub key_records-requires : goal.key_records-requires
key_records-requires c =
    let made = c.in-Ok-new.ensures.made in
    let listed = c.push_reserved.ensures.items
    ∙ ap (λ (is : List NodeId). is ++ record { key = c.insert_reserved-key.result; birth = c.self.inside.births + 1 } ∷ [])
    (made.indexes ∙ c.indexes-listed.ensures ∙ ap (λ (v : View). indexes_of (graph_of v) c.args.file)
    (roomy_view c.self.inside c.args.self.now c.self.view_is c.reserve.new.self c.reserve.ensures.rest_kept)) in
    can_be_keyed (roomy c.self.inside c.self.invariant c.args.self.now c.self.view_is c.reserve.new.self c.reserve.ensures.rest_kept)
    (law_of c.self.inside c.self.invariant c.args.self.now c.self.view_is) _ _
    c.insert_reserved-key.ensures.was_vacant c.insert_reserved-key.ensures.updates refl c.insert_reserved-key.ensures.len _ _ _
    (λ i. Index (made.file_is i) (made.bounds i) (made.unlisted i)) made.parents c.args.records.now c.args.keys.now
    (over_unrefused (graph_of c.args.self.now) _ _ _ _ _ c.requires)
    _ _ c.insert_intervals.ensures.born _ refl _ c.write_intervals.ensures.written c.write_intervals.ensures.len
    _ listed _ c.write_indexes.ensures.written c.write_indexes.ensures.len _ c.count_up.ensures.counted
    (roomy c.self.inside c.self.invariant c.args.self.now c.self.view_is c.reserve.new.self c.reserve.ensures.rest_kept) _ c.in-Ok-keyed_bodies.ensures

pub invariant_of-self-3 : goal.invariant_of-self-3
invariant_of-self-3 c =
    let made = c.in-Ok-new.ensures.made in
    let listed = c.push_reserved.ensures.items
    ∙ ap (λ (is : List NodeId). is ++ record { key = c.insert_reserved-key.result; birth = c.self.inside.births + 1 } ∷ [])
    (made.indexes ∙ c.indexes-listed.ensures ∙ ap (λ (v : View). indexes_of (graph_of v) c.args.file)
    (roomy_view c.self.inside c.args.self.now c.self.view_is c.reserve.new.self c.reserve.ensures.rest_kept)) in
    over_sound (roomy c.self.inside c.self.invariant c.args.self.now c.self.view_is c.reserve.new.self c.reserve.ensures.rest_kept)
    (law_of c.self.inside c.self.invariant c.args.self.now c.self.view_is) _ _
    c.insert_reserved-key.ensures.was_vacant c.insert_reserved-key.ensures.updates refl c.insert_reserved-key.ensures.len _ _ _
    (λ i. Index (made.file_is i) (made.bounds i) (made.unlisted i)) made.parents c.args.records.now c.args.keys.now
    (over_unrefused (graph_of c.args.self.now) _ _ _ _ _ c.requires)
    _ _ c.insert_intervals.ensures.born _ refl _ c.write_intervals.ensures.written c.write_intervals.ensures.len
    _ listed _ c.write_indexes.ensures.written c.write_indexes.ensures.len _ c.count_up.ensures.counted
    _ c.key_records.ensures

pub returns-clause-made : goal.returns-clause-made
returns-clause-made c =
    let made = c.in-Ok-new.ensures.made in
    let listed = c.push_reserved.ensures.items
    ∙ ap (λ (is : List NodeId). is ++ record { key = c.insert_reserved-key.result; birth = c.self.inside.births + 1 } ∷ [])
    (made.indexes ∙ c.indexes-listed.ensures ∙ ap (λ (v : View). indexes_of (graph_of v) c.args.file)
    (roomy_view c.self.inside c.args.self.now c.self.view_is c.reserve.new.self c.reserve.ensures.rest_kept)) in
    over_made (roomy c.self.inside c.self.invariant c.args.self.now c.self.view_is c.reserve.new.self c.reserve.ensures.rest_kept)
    (law_of c.self.inside c.self.invariant c.args.self.now c.self.view_is) _ _
    c.insert_reserved-key.ensures.was_vacant c.insert_reserved-key.ensures.updates refl c.insert_reserved-key.ensures.len _ _ _
    (λ i. Index (made.file_is i) (made.bounds i) (made.unlisted i)) made.parents c.args.records.now c.args.keys.now
    (over_unrefused (graph_of c.args.self.now) _ _ _ _ _ c.requires)
    _ _ c.insert_intervals.ensures.born _ refl _ c.write_intervals.ensures.written c.write_intervals.ensures.len
    _ listed _ c.write_indexes.ensures.written c.write_indexes.ensures.len _ c.count_up.ensures.counted
    _ c.key_records.ensures

pub invariant_of-self-in_default-keyed_bodies : goal.invariant_of-self-in_default-keyed_bodies
invariant_of-self-in_default-keyed_bodies c = roomy_sound c.self.inside c.self.invariant c.reserve.new.self c.reserve.ensures.rest_kept

pub overflow_add-birth : goal.overflow_add-birth
overflow_add-birth c =
    let low = births_left (held c.self.inside c.self.invariant c.args.self.now c.self.view_is)
    (law_of c.self.inside c.self.invariant c.args.self.now c.self.view_is) c.args.parents.now c.args.file c.args.bounds.now
    c.args.records.now c.args.keys.now c.requires in
    omega arith

pub insert_intervals-requires-clause-births : goal.insert_intervals-requires-clause-births
insert_intervals-requires-clause-births c =
    let low = births_left (held c.self.inside c.self.invariant c.args.self.now c.self.view_is)
    (law_of c.self.inside c.self.invariant c.args.self.now c.self.view_is) c.args.parents.now c.args.file c.args.bounds.now
    c.args.records.now c.args.keys.now c.requires in
    omega arith

pub write_intervals-requires : goal.write_intervals-requires
write_intervals-requires c = ap is_some (c.insert_intervals.ensures.born.grown.stays _ _ c.insert_reserved-key.ensures.updates.changed)
