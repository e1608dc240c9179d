use Rattle.gl_graph.proofs.SplitKeys.{merges_move_keys, merges_move_no_others, splits_move_keys, splits_move_no_others}
use Rattle.gl_graph.proofs.laws.split_keys.Goals as goal

pub returns : goal.returns
returns c = record { split = splits_move_keys; split_others = splits_move_no_others; merge = merges_move_keys; merge_others = merges_move_no_others }
