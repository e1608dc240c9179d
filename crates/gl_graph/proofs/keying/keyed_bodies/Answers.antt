use Rattle.gl_graph.proofs.Words.{no_node, slice_get-get_or, slice_index_or, subst, sym, ◌+◌}
use Rattle.gl_graph.specs.Keying.{AreBodiesFor}
use Rattle.gl_graph.proofs.KeyedBodies.{bodies_more}
use Rattle.gl_graph.proofs.keying.keyed_bodies.Goals as goal

pub with_key-requires-clause-keys : goal.with_key-requires-clause-keys
with_key-requires-clause-keys c =
    (c.requires.stored.few c.loop-place.place (slice_index_or c.args.records.now c.loop-place.place no_node) c.index.result.now
    (slice_get-get_or c.args.records.now c.loop-place.place no_node c.loop-place-test.true) c.index.ensures).1

pub with_key-requires-clause-parents : goal.with_key-requires-clause-parents
with_key-requires-clause-parents c =
    (c.requires.stored.few c.loop-place.place (slice_index_or c.args.records.now c.loop-place.place no_node) c.index.result.now
    (slice_get-get_or c.args.records.now c.loop-place.place no_node c.loop-place-test.true) c.index.ensures).2

pub loop-place-preserved : goal.loop-place-preserved
loop-place-preserved c =
    subst (λ bodies. AreBodiesFor c.args.nodes.now c.args.records.now c.args.keys.now bodies (c.loop-place.place + 1)) (sym c.in_ok-push.ensures.items)
    (bodies_more c.args.nodes.now c.args.records.now c.args.keys.now c.loop-place.bodies.items c.loop-place.place c.loop-place.invariant
    (slice_index_or c.args.records.now c.loop-place.place no_node) c.index.result.now c.in_ok-with_key.field-0
    (slice_get-get_or c.args.records.now c.loop-place.place no_node c.loop-place-test.true) c.index.ensures c.in_ok-with_key.ensures)
