use Rattle.gl_graph.proofs.Words.{[], ap, append-nil, append_assoc, ap₂, arith, drop, drop_all, drop_more, Graph, graph_of, interval_of, intervals_of}
use Rattle.gl_graph.proofs.Words.{is_index_shape, length, List, NodeId, shape_of, slice_index_or, sym, ℕ, ◌++◌, ◌+◌, ◌<◌, ◌∙◌, ◌∷◌, ◌≡◌}
use Rattle.gl_graph.proofs.RecordParents.{listed_index, index_of_index}
use Rattle.gl_graph.proofs.graph.Graph.record_parents.Goals as goal

pub interval_of-requires : goal.interval_of-requires
interval_of-requires c =
    let low : c.loop-place.place < length c.indexes-index-items.result.now = c.loop-place-test.true in
    let many = ap length c.indexes-index-items.ensures in
    let index = listed_index (graph_of c.args.self.now) c.args.file c.loop-place.place (record { key = 0; birth = 0 }) (omega arith) in
    ap (λ is. is_index_shape (shape_of (graph_of c.args.self.now)
    (slice_index_or is c.loop-place.place (record { key = 0; birth = 0 })))) c.indexes-index-items.ensures
    ∙ index_of_index c.args.file _ index

step : (g : Graph) (parents is : List NodeId) (keys : List ℕ) (place : ℕ) (all : List NodeId) → place < length is → place < length keys → parents
    ++ intervals_of g (drop place is) (drop place keys) ≡ all
    → (parents ++ interval_of g (slice_index_or is place (record { key = 0; birth = 0 })) (slice_index_or keys place 0) ∷ [])
    ++ intervals_of g (drop (place + 1) is) (drop (place + 1) keys) ≡ all
step g parents is keys place all low low' e =
    append_assoc parents (interval_of g (slice_index_or is place (record { key = 0; birth = 0 })) (slice_index_or keys place 0) ∷ [])
    (intervals_of g (drop (place + 1) is) (drop (place + 1) keys))
    ∙ sym (ap (λ xs. parents ++ xs) (ap₂ (intervals_of g) (drop_more is place (record { key = 0; birth = 0 }) low) (drop_more keys place 0 low'))) ∙ e

pub loop-place-preserved : goal.loop-place-preserved
loop-place-preserved c =
    let low : c.loop-place.place < length c.indexes-index-items.result.now = c.loop-place-test.true in
    let many = ap length c.indexes-index-items.ensures in
    let each = c.requires.keys in
    record {
      so_far =
          ap (λ ps. ps ++ intervals_of (graph_of c.args.self.now) (drop (c.loop-place.place + 1) c.indexes-index-items.result.now)
          (drop (c.loop-place.place + 1) c.args.keys.now))
          (c.push-in-loop-place.ensures.items ∙ ap (λ n. c.loop-place.parents.items ++ n ∷ []) c.interval_of.ensures)
          ∙ step (graph_of c.args.self.now) c.loop-place.parents.items c.indexes-index-items.result.now c.args.keys.now c.loop-place.place _ low
          (omega arith) c.loop-place.invariant.so_far;
      many = omega arith;
    }

pub returns : goal.returns
returns c = grind (arith, drop_all, append-nil)
