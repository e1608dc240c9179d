use Rattle.gl_graph.proofs.SplitKeys.{merges_keep_graphs, splits_keep_graphs}
use Rattle.gl_graph.proofs.Undone.{merges_undo_splits}
use Rattle.gl_graph.proofs.laws.split_graphs.Goals as goal

pub returns : goal.returns
returns c = record { split = splits_keep_graphs; merge = merges_keep_graphs; undone = merges_undo_splits }
