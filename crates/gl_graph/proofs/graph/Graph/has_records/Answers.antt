use Rattle.gl_graph.proofs.Words.{ap, graph_of, is_record_of, nat_lt, nodes, ◌∙◌}
use Rattle.gl_graph.proofs.Beside.{any_counted}
use Rattle.gl_graph.proofs.graph.Graph.has_records.Goals as goal

pub returns : goal.returns
returns c = ap (nat_lt 0) c.records.ensures ∙ any_counted (is_record_of (graph_of c.args.self.now) c.args.file) (nodes (graph_of c.args.self.now))
