use Rattle.gl_graph.proofs.Words.{ap, ap₂, Index, IndexBody, parents_in_body, shape_in_body, sym, ◌∙◌}
use Rattle.gl_graph.proofs.Beside.{held, law_of}
use Rattle.gl_graph.proofs.Taken.{index_contained, is_stored_index, intervals_there, file_kept, index_parents_kept, index_left_sound, index_left_graph}
use Rattle.gl_graph.proofs.graph.Graph.remove_index.Goals as goal

pub remove-body-requires : goal.remove-body-requires
remove-body-requires c =
    index_contained (held c.self.inside c.self.invariant c.args.self.now c.self.view_is)
    (law_of c.self.inside c.self.invariant c.args.self.now c.self.view_is) c.args.index c.requires.index c.requires.free

pub unreachable-requires : goal.unreachable-requires
unreachable-requires c =
    is_stored_index (held c.self.inside c.self.invariant c.args.self.now c.self.view_is)
    (law_of c.self.inside c.self.invariant c.args.self.now c.self.view_is) c.args.index c.requires.index c.requires.free
    c.remove-body.result c.remove-body.ensures.value c.in_default.not-Index

pub remove_all-requires : goal.remove_all-requires
remove_all-requires c =
    intervals_there (held c.self.inside c.self.invariant c.args.self.now c.self.view_is)
    (law_of c.self.inside c.self.invariant c.args.self.now c.self.view_is) c.args.index c.requires.index c.requires.free _ c.remove-body.ensures.value _ _
    _ (ap shape_in_body c.in-Index.is ∙ ap (Index c.in-Index.kept.value.file c.in-Index.kept.value.bounds.items)
    (sym (c.as_slice.ensures.value ∙ ap (λ (b : IndexBody). b.intervals.items) c.deref.ensures)))
    _ c.remove-body.ensures.updates c.remove-body.ensures.len

pub unlist_index-requires : goal.unlist_index-requires
unlist_index-requires c =
    file_kept (held c.self.inside c.self.invariant c.args.self.now c.self.view_is)
    (law_of c.self.inside c.self.invariant c.args.self.now c.self.view_is) c.args.index c.requires.index c.requires.free c.remove-body.result
    c.remove-body.ensures.value _ _ c.as_slice.result.now (ap shape_in_body c.in-Index.is
    ∙ ap₂ (λ (b : IndexBody) is. Index b.file b.bounds.items is) (sym c.deref-2.ensures)
    (sym (c.as_slice.ensures.value ∙ ap (λ (b : IndexBody). b.intervals.items) c.deref.ensures)))
    c.remove-body.new.self c.remove-body.ensures.updates c.remove-body.ensures.len
    c.remove_all.new.nodes c.remove_all.ensures.gone

pub count_down-requires : goal.count_down-requires
count_down-requires c =
    let kept = index_parents_kept (held c.self.inside c.self.invariant c.args.self.now c.self.view_is)
    (law_of c.self.inside c.self.invariant c.args.self.now c.self.view_is) c.args.index c.requires.index c.requires.free c.remove-body.result
    c.remove-body.ensures.value _ _ c.as_slice.result.now (ap shape_in_body c.in-Index.is
    ∙ ap₂ (λ (b : IndexBody) is. Index b.file b.bounds.items is) (sym c.deref-2.ensures)
    (sym (c.as_slice.ensures.value ∙ ap (λ (b : IndexBody). b.intervals.items) c.deref.ensures)))
    c.remove-body.new.self c.remove-body.ensures.updates c.remove-body.ensures.len
    c.remove_all.new.nodes c.remove_all.ensures.gone c.unlist_index.new.nodes c.unlist_index.ensures.written c.unlist_index.ensures.len
    c.as_slice-2.result.now (c.as_slice-2.ensures.value ∙ sym (ap parents_in_body c.in-Index.is)) in
    record { stored = kept.stored; some = kept.each }

pub invariant_of-self : goal.invariant_of-self
invariant_of-self c =
    index_left_sound (held c.self.inside c.self.invariant c.args.self.now c.self.view_is)
    (law_of c.self.inside c.self.invariant c.args.self.now c.self.view_is) c.args.index c.requires.index c.requires.free c.remove-body.result
    c.remove-body.ensures.value _ _ c.as_slice.result.now (ap shape_in_body c.in-Index.is
    ∙ ap₂ (λ (b : IndexBody) is. Index b.file b.bounds.items is) (sym c.deref-2.ensures)
    (sym (c.as_slice.ensures.value ∙ ap (λ (b : IndexBody). b.intervals.items) c.deref.ensures)))
    c.remove-body.new.self c.remove-body.ensures.updates c.remove-body.ensures.len
    c.remove_all.new.nodes c.remove_all.ensures.gone c.unlist_index.new.nodes c.unlist_index.ensures.written c.unlist_index.ensures.len
    c.as_slice-2.result.now (c.as_slice-2.ensures.value ∙ sym (ap parents_in_body c.in-Index.is)) c.count_down.new.nodes c.count_down.ensures.counted

pub returns : goal.returns
returns c = record {
  removed = index_left_graph (held c.self.inside c.self.invariant c.args.self.now c.self.view_is)
      (law_of c.self.inside c.self.invariant c.args.self.now c.self.view_is) c.args.index c.requires.index c.requires.free _ c.remove-body.ensures.value _ _ _
      (ap shape_in_body c.in-Index.is ∙ ap₂ (λ (b : IndexBody) is. Index b.file b.bounds.items is) (sym c.deref-2.ensures)
      (sym (c.as_slice.ensures.value ∙ ap (λ (b : IndexBody). b.intervals.items) c.deref.ensures)))
      _ c.remove-body.ensures.updates c.remove-body.ensures.len _ c.remove_all.ensures.gone _ c.unlist_index.ensures.written c.unlist_index.ensures.len _
      (c.as_slice-2.ensures.value ∙ sym (ap parents_in_body c.in-Index.is)) _ c.count_down.ensures.counted;
}
