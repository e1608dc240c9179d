use Rattle.gl_graph.proofs.Words.{arith}
use Rattle.gl_graph.proofs.KeyPlace.{not_below, place_counted}
use Rattle.gl_graph.proofs.bounds.interval_place.Goals as goal

pub loop-low-preserved-then-bounds-middle : goal.loop-low-preserved-then-bounds-middle
loop-low-preserved-then-bounds-middle c = grind (arith, not_below)

pub loop-low-preserved : goal.loop-low-preserved
loop-low-preserved c = grind (arith, not_below)

pub returns-clause-place : goal.returns-clause-place
returns-clause-place c =
    place_counted c.args.bounds.now c.args.key c.loop-low.low (omega arith) c.loop-low.invariant.begins
    (λ j h low. c.loop-low.invariant.ends j (omega arith) low)
