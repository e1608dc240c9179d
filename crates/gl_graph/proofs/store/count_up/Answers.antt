use Rattle.gl_graph.proofs.Words.{slice_get-get_or, slice_index_or, ◌+◌}
use Rattle.gl_graph.proofs.Counted.{recounted_more}
use Rattle.gl_graph.proofs.store.count_up.Goals as goal

pub loop-n-preserved : goal.loop-n-preserved
loop-n-preserved c =
    recounted_more (λ children. children + 1) c.args.nodes.now c.loop-n.nodes c.args.ids.now c.loop-n.n-index
    (slice_index_or c.args.ids.now c.loop-n.n-index (record { key = 0; birth = 0 })) c.requires.stored c.loop-n.invariant
    (slice_get-get_or c.args.ids.now c.loop-n.n-index (record { key = 0; birth = 0 }) c.loop-n-test.true) _ c.index.ensures
    c.children-children.result c.children-children.ensures c.write_children.new.nodes c.write_children.ensures.len c.write_children.ensures.written
