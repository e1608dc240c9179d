use Rattle.gl_graph.proofs.Words.{graph_of, rules}
use Rattle.gl_graph.specs.Splits.{split_refusal}
use Rattle.gl_graph.proofs.Unrefused.{refused_by}
use Rattle.gl_graph.proofs.graph.Graph.split.Goals as goal

pub returns-in_err-check_split-clause-refuses : goal.returns-in_err-check_split-clause-refuses
returns-in_err-check_split-clause-refuses c =
    refused_by (split_refusal (graph_of c.args.self.now) c.args.interval c.args.bound) _ _ c.in_err-check_split.ensures (search rules)
