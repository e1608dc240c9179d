use Rattle.gl_model.proofs.splits.Laws.{merges_tell_waiters, splits_tell_waiters}
use Rattle.gl_model.proofs.laws.split_tellings.Goals as goal

pub returns : goal.returns
returns c = record { split = splits_tell_waiters; merge = merges_tell_waiters }
