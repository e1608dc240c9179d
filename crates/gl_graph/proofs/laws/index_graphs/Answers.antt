use Rattle.gl_graph.proofs.OverGraph.{indexes_keep_graphs}
use Rattle.gl_graph.proofs.laws.index_graphs.Goals as goal

pub returns : goal.returns
returns c = indexes_keep_graphs
