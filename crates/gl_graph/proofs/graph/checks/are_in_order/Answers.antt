use Rattle.gl_graph.proofs.Words.{ap, drop, drop_more, is_rising, map, NodeId, slice_index_or, sym, ◌+◌, ◌∙◌, ◌∷◌}
use Rattle.gl_graph.proofs.Rising.{rising_skip}
use Rattle.gl_graph.proofs.graph.checks.are_in_order.Goals as goal

pub loop-id-preserved : goal.loop-id-preserved
loop-id-preserved c =
    let none : NodeId = record { key = 0; birth = 0 } in
    sym (ap (λ xs. is_rising (c.loop-id.last ∷ map (λ (n : NodeId). n.birth) xs)) (drop_more c.args.ids.now c.loop-id.id-index none c.loop-id-test.true)
    ∙ rising_skip c.loop-id.last (slice_index_or c.args.ids.now c.loop-id.id-index none).birth
    (map (λ (n : NodeId). n.birth) (drop (c.loop-id.id-index + 1) c.args.ids.now)) c.if-id-last.false)
    ∙ c.loop-id.invariant
