use Rattle.gl_model.proofs.splits.Laws.{merges_add_no_wait, merges_keep_law, splits_add_no_wait, splits_keep_law}
use Rattle.gl_model.proofs.laws.split_states.Goals as goal

pub returns : goal.returns
returns c = record { split = splits_keep_law; merge = merges_keep_law; split_waits = splits_add_no_wait; merge_waits = merges_add_no_wait }
