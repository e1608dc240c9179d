use Rattle.gl_table.proofs.Words.{ap, arith, graph_of, length, length-take}
use Rattle.gl_model.proofs.queues.Counts.{parents_few}
use Rattle.gl_table.proofs.ledger.moves.parents_before.Goals as goal

pub push-requires : goal.push-requires
push-requires c =
    let few = parents_few (graph_of c.args.graph.now) c.law.ensures.lawful c.args.node in
    let is = ap length c.parents-parent-items.ensures in
    let so_far = ap length c.loop-parent.invariant in
    let taken = length-take c.loop-parent.parent-index c.parents-parent-items.result.now in
    omega (arith, c.loop-parent-test.true)
