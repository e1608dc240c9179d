use Rattle.gl_graph.proofs.Beside.{beside_shown, node_shown}
use Rattle.gl_graph.proofs.graph.Graph.node.Goals as goal

pub returns-clause-node : goal.returns-clause-node
returns-clause-node c = node_shown c.self.inside c.self.invariant c.args.self.now c.self.view_is c.args.n c.find.result c.find.ensures

pub returns-clause-beside : goal.returns-clause-beside
returns-clause-beside c = beside_shown c.self.inside c.self.invariant c.args.self.now c.self.view_is c.args.n c.find.result c.find.ensures
