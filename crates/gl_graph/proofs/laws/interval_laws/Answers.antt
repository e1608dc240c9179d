use Rattle.gl_graph.proofs.KeyIntervals.{intervals_hold_keys, keys_have_intervals}
use Rattle.gl_graph.proofs.laws.interval_laws.Goals as goal

pub returns : goal.returns
returns c = record { exist = keys_have_intervals; hold = intervals_hold_keys }
