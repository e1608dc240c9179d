use Rattle.gl_graph.proofs.Words.{ap, arith, graph_of, is_file_shape, shape_of, ◌∙◌}
use Rattle.gl_graph.proofs.Beside.{held, law_of}
use Rattle.gl_graph.proofs.RecordParents.{its_file}
use Rattle.gl_graph.proofs.Taken.{contained, file_contained, some_record, removed_sound, removed_graph}
use Rattle.gl_graph.proofs.graph.Graph.remove_record.Goals as goal

pub records-records-requires : goal.records-records-requires
records-records-requires c =
    ap (λ n. is_file_shape (shape_of (graph_of c.args.self.now) n)) c.first_parent-file.ensures
    ∙ its_file (graph_of c.args.self.now) (law_of c.self.inside c.self.invariant c.args.self.now c.self.view_is) c.args.rec c.requires

pub overflow_sub-records : goal.overflow_sub-records
overflow_sub-records c =
    let some = some_record (held c.self.inside c.self.invariant c.args.self.now c.self.view_is)
    (law_of c.self.inside c.self.invariant c.args.self.now c.self.view_is) c.args.rec c.requires c.first_parent-file.result c.first_parent-file.ensures in
    let all = c.records-records.ensures in
    omega arith

pub remove-requires : goal.remove-requires
remove-requires c =
    contained (held c.self.inside c.self.invariant c.args.self.now c.self.view_is)
    (law_of c.self.inside c.self.invariant c.args.self.now c.self.view_is) c.args.rec c.requires

pub write_records-requires : goal.write_records-requires
write_records-requires c =
    file_contained (held c.self.inside c.self.invariant c.args.self.now c.self.view_is) (law_of c.self.inside c.self.invariant c.args.self.now c.self.view_is)
    c.args.rec c.requires c.remove.ensures.updates c.remove.ensures.len _ c.first_parent-file.ensures

pub invariant_of-self : goal.invariant_of-self
invariant_of-self c =
    removed_sound (held c.self.inside c.self.invariant c.args.self.now c.self.view_is) (law_of c.self.inside c.self.invariant c.args.self.now c.self.view_is)
    c.args.rec c.requires c.remove.ensures.updates c.remove.ensures.len _ c.first_parent-file.ensures _ c.records-records.ensures _
    c.write_records.ensures.written c.write_records.ensures.len

pub returns : goal.returns
returns c = record {
  removed = removed_graph (held c.self.inside c.self.invariant c.args.self.now c.self.view_is)
      (law_of c.self.inside c.self.invariant c.args.self.now c.self.view_is) c.args.rec c.requires c.remove.ensures.updates c.remove.ensures.len _
      c.first_parent-file.ensures _ c.records-records.ensures _ c.write_records.ensures.written c.write_records.ensures.len;
}
