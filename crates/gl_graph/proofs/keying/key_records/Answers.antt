use Rattle.gl_graph.proofs.Words.{ap, arith, Body, get, length, no_node, NodeId, parents_in_body}
use Rattle.gl_graph.proofs.Words.{slice_get-get_or, slice_index_or, Some, Stored, subst, Slab, List, is_some, ℕ}
use Rattle.gl_graph.proofs.Words.{Updates, body_with_parent, ◌-◌, ◌∙◌, ◌≡◌}
use Rattle.gl_graph.specs.Keying.{AreKeyed, CanBeKeyed, interval_in_body}
use Rattle.gl_graph.proofs.KeyedBodies.{body_at, keyed_more, last_parent, set_length, set_other, untouched}
use Rattle.gl_graph.proofs.keying.key_records.Goals as goal

-- the index is not among the records
still : (nodes now : Slab Stored) (index : ℕ) (rs : List NodeId) (ks : List ℕ) (bodies : List Body) (count : ℕ) (interval : ℕ → NodeId)
    → CanBeKeyed nodes index rs ks bodies → AreKeyed nodes now interval rs ks count → get now index ≡ get nodes index
still nodes now index rs ks bodies count interval can are = are.stays index (λ place r low at. can.apart place r at)

pub stored_interval-interval-requires : goal.stored_interval-interval-requires
stored_interval-interval-requires c =
    let index = c.requires.index in
    record {
      x = index.x;
      there = still c.args.nodes.now c.loop-place.nodes c.args.index c.args.records.now c.args.keys.now c.args.bodies.now.items c.loop-place.place
          (interval_in_body index.x.body) c.requires (c.loop-place.invariant.keyed index.x index.there) ∙ index.there;
      rising = index.rising;
      each = index.each;
    }

pub write_record-requires-clause-there : goal.write_record-requires-clause-there
write_record-requires-clause-there c =
    let index = c.requires.index in
    let at = slice_get-get_or c.args.records.now c.loop-place.place no_node c.loop-place-test.true in
    ap is_some (untouched c.args.nodes.now c.loop-place.nodes (interval_in_body index.x.body) c.args.records.now c.args.keys.now c.loop-place.place
    c.requires.stored.stored (c.loop-place.invariant.keyed index.x index.there) (slice_index_or c.args.records.now c.loop-place.place no_node) at)
    ∙ c.requires.stored.stored.there c.loop-place.place (slice_index_or c.args.records.now c.loop-place.place no_node) at

pub write_record-requires-clause-parents : goal.write_record-requires-clause-parents
write_record-requires-clause-parents c =
    let it = body_at c.args.nodes.now c.args.records.now c.args.keys.now c.loop-place.bodies.items c.args.bodies.now.items c.loop-place.place
    c.index_mut.result.now c.requires.stored c.requires.bodies_are c.loop-place.invariant.many c.loop-place.invariant.rest c.loop-place-test.true
    c.index_mut.ensures.value in
    last_parent it.0.body c.index_mut.result.now (slice_index_or c.args.keys.now c.loop-place.place 0) it.2

pub loop-place-preserved : goal.loop-place-preserved
loop-place-preserved c =
    let it = body_at c.args.nodes.now c.args.records.now c.args.keys.now c.loop-place.bodies.items c.args.bodies.now.items c.loop-place.place
    c.index_mut.result.now c.requires.stored c.requires.bodies_are c.loop-place.invariant.many c.loop-place.invariant.rest c.loop-place-test.true
    c.index_mut.ensures.value in
    record {
      keyed = λ x e.
          let interval = c.stored_interval-interval.ensures x
          (still c.args.nodes.now c.loop-place.nodes c.args.index c.args.records.now c.args.keys.now c.args.bodies.now.items
          c.loop-place.place (interval_in_body x.body) c.requires (c.loop-place.invariant.keyed x e) ∙ e) in
          keyed_more c.args.nodes.now c.loop-place.nodes c.write_record.new.nodes (interval_in_body x.body) c.args.records.now c.args.keys.now
          c.loop-place.place c.requires.stored.stored (c.loop-place.invariant.keyed x e) (slice_index_or c.args.records.now c.loop-place.place no_node) it.0
          c.index_mut.result.now (slice_get-get_or c.args.records.now c.loop-place.place no_node c.loop-place-test.true) it.1 it.2
          (λ w at. subst (λ (i : NodeId). Updates c.loop-place.nodes c.write_record.new.nodes
          (slice_index_or c.args.records.now c.loop-place.place no_node).key (Some (record w {
            body = body_with_parent c.index_mut.result.now (length (parents_in_body c.index_mut.result.now) - 1) i;
          })))
          interval (c.write_record.ensures.written w at)) c.write_record.ensures.len;
      many = set_length c.loop-place.bodies.items c.loop-place.place c.write_record.new.body ∙ c.loop-place.invariant.many;
      rest = λ k low. set_other c.loop-place.bodies.items c.loop-place.place k c.write_record.new.body (omega arith) ∙ c.loop-place.invariant.rest k
          (omega arith);
    }
