use Rattle.gl_graph.proofs.Words.{ap, graph_of, refl, ◌+◌, ◌∙◌}
use Rattle.gl_graph.proofs.Added.{file_contained, record_sound, record_born}
use Rattle.gl_graph.proofs.Beside.{held, law_of}
use Rattle.gl_graph.proofs.Unrefused.{record_unrefused}
use Rattle.gl_graph.proofs.graph.Graph.add_record_under.Goals as goal

pub write_records-requires : goal.write_records-requires
write_records-requires c =
    let may = record_unrefused (graph_of c.args.self.now) c.args.file c.args.keys.now c.requires.free in
    file_contained (held c.self.inside c.self.invariant c.args.self.now c.self.view_is)
    (law_of c.self.inside c.self.invariant c.args.self.now c.self.view_is) c.in-Ok-insert.key
    (record { birth = c.self.inside.births + 1; body = c.in-Ok.body }) c.in-Ok-insert.ensures.was_vacant c.in-Ok-insert.ensures.updates refl
    c.in-Ok-insert.ensures.len c.args.file c.args.keys.now may.file c.in-Ok.ensures.shape (c.in-Ok.ensures.parents ∙ c.requires.parents)

pub invariant_of-self-2 : goal.invariant_of-self-2
invariant_of-self-2 c =
    let may = record_unrefused (graph_of c.args.self.now) c.args.file c.args.keys.now c.requires.free in
    record_sound (held c.self.inside c.self.invariant c.args.self.now c.self.view_is)
    (law_of c.self.inside c.self.invariant c.args.self.now c.self.view_is) c.in-Ok-insert.key
    (record { birth = c.self.inside.births + 1; body = c.in-Ok.body }) c.in-Ok-insert.ensures.was_vacant c.in-Ok-insert.ensures.updates refl
    c.in-Ok-insert.ensures.len c.args.file c.args.keys.now may.file c.in-Ok.ensures.shape (c.in-Ok.ensures.parents ∙ c.requires.parents)
    may.each may.room (c.records-records.result + 1) (ap (λ n. n + 1) c.records-records.ensures) c.write_records.new.nodes
    c.write_records.ensures.written c.write_records.ensures.len

pub returns-clause-made : goal.returns-clause-made
returns-clause-made c =
    let may = record_unrefused (graph_of c.args.self.now) c.args.file c.args.keys.now c.requires.free in
    record_born (held c.self.inside c.self.invariant c.args.self.now c.self.view_is)
    (law_of c.self.inside c.self.invariant c.args.self.now c.self.view_is) c.in-Ok-insert.key
    (record { birth = c.self.inside.births + 1; body = c.in-Ok.body }) c.in-Ok-insert.ensures.was_vacant c.in-Ok-insert.ensures.updates refl
    c.in-Ok-insert.ensures.len c.args.file c.args.keys.now may.file c.in-Ok.ensures.shape (c.in-Ok.ensures.parents ∙ c.requires.parents)
    may.each may.room (c.records-records.result + 1) (ap (λ n. n + 1) c.records-records.ensures) c.write_records.new.nodes
    c.write_records.ensures.written c.write_records.ensures.len
