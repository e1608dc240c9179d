use Rattle.gl_graph.proofs.Words.{ap, first_parent, graph_of, indexes_of, is_file_shape, list_any, same_node, shape_of, ◌∙◌}
use Rattle.gl_graph.proofs.Beside.{held, law_of}
use Rattle.gl_graph.proofs.RecordParents.{its_file}
use Rattle.gl_graph.proofs.Rekey.{index_among, rekeyed_graph, rekeyed_sound, rekeys}
use Rattle.gl_graph.proofs.graph.Graph.set_key.Goals as goal

pub index_place-place-requires-clause-file : goal.index_place-place-requires-clause-file
index_place-place-requires-clause-file c =
    ap (λ n. is_file_shape (shape_of (graph_of c.args.self.now) n)) c.first_parent.ensures
    ∙ its_file (graph_of c.args.self.now) (law_of c.self.inside c.self.invariant c.args.self.now c.self.view_is) c.args.rec c.requires.«record»

pub index_place-place-requires-clause-listed : goal.index_place-place-requires-clause-listed
index_place-place-requires-clause-listed c =
    ap (λ f. list_any (λ listed. same_node listed c.args.index) (indexes_of (graph_of c.args.self.now) f)) c.first_parent.ensures
    ∙ index_among (graph_of c.args.self.now) (law_of c.self.inside c.self.invariant c.args.self.now c.self.view_is)
    (first_parent (graph_of c.args.self.now) c.args.rec) c.args.index c.requires.index

pub write_key-requires : goal.write_key-requires
write_key-requires c =
    let now = rekeys (held c.self.inside c.self.invariant c.args.self.now c.self.view_is)
    (law_of c.self.inside c.self.invariant c.args.self.now c.self.view_is) c.args.rec c.args.index c.args.key c.index_place-place.result
    c.requires.«record» c.first_parent.result c.first_parent.ensures c.index_place-place.ensures in
    record { there = now.there; keys = now.keys; parents = now.parents; place = now.place_fits }

pub invariant_of-self : goal.invariant_of-self
invariant_of-self c =
    rekeyed_sound (held c.self.inside c.self.invariant c.args.self.now c.self.view_is) (law_of c.self.inside c.self.invariant c.args.self.now c.self.view_is)
    c.args.rec c.args.index c.args.key _ c.requires.«record» _ c.first_parent.ensures c.index_place-place.ensures _ c.interval_of-interval.ensures
    c.write_key.ensures.written c.write_key.ensures.len

pub returns : goal.returns
returns c = record {
  rekeyed = rekeyed_graph (held c.self.inside c.self.invariant c.args.self.now c.self.view_is)
      (law_of c.self.inside c.self.invariant c.args.self.now c.self.view_is) c.args.rec c.args.index c.args.key _ c.requires.«record» _ c.first_parent.ensures
      c.index_place-place.ensures _ c.interval_of-interval.ensures c.write_key.ensures.written c.write_key.ensures.len;
}
