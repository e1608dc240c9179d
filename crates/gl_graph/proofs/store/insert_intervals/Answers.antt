use Rattle.gl_graph.proofs.Words.{[], ap, arith, length, length-append, refl, ◌+◌, ◌∙◌, ◌∷◌}
use Rattle.gl_graph.specs.declared.node.Body.TheVariants as body
use Rattle.gl_graph.proofs.Grow.{intervals_born}
use Rattle.gl_graph.proofs.store.insert_intervals.Goals as goal

pub loop-place-preserved : goal.loop-place-preserved
loop-place-preserved c =
    let room = c.loop-place.invariant.room in
    let len = c.insert_reserved-key.ensures.len in
    let capacity = c.insert_reserved-key.ensures.capacity in
    let ids = c.push_reserved.ensures.capacity in
    let was = c.loop-place.invariant.list_room in
    record {
      room = omega arith;
      list_room = omega arith;
      listed = ap length c.push_reserved.ensures.items
          ∙ length-append c.loop-place.ids.items
          (record { key = c.insert_reserved-key.result; birth = c.args.index.birth + 1 + c.loop-place.place } ∷ [])
          ∙ ap (λ n. n + 1) c.loop-place.invariant.listed;
      born = intervals_born c.args.nodes.now c.loop-place.nodes c.insert_reserved-key.new.self c.args.index c.loop-place.place c.loop-place.ids.items
          c.push_reserved.new.self.items c.loop-place.invariant.born c.insert_reserved-key.result
          (record { birth = c.args.index.birth + 1 + c.loop-place.place; body = body.Interval (c.args.index ∷ []) })
          c.insert_reserved-key.ensures.was_vacant c.insert_reserved-key.ensures.updates refl len refl refl c.push_reserved.ensures.items;
    }
