use Rattle.gl_model.proofs.splits.Laws.{merges_keep_effects, splits_keep_effects, splits_share_effects}
use Rattle.gl_model.proofs.laws.split_effects.Goals as goal

pub returns : goal.returns
returns c = record { split = splits_keep_effects; new_interval = splits_share_effects; merge = merges_keep_effects }
