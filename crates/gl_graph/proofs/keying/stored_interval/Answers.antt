use Rattle.gl_graph.proofs.Words.{arith}
use Rattle.gl_graph.proofs.keying.stored_interval.Goals as goal

pub bounds-intervals-interval_place : goal.bounds-intervals-interval_place
bounds-intervals-interval_place c = let low = c.requires.each c.args.key in grind arith
