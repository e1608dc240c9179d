use Rattle.gl_graph.proofs.Words.{born_node, graph_of, IsLawfulGraph, subst, sym}
use Rattle.gl_graph.proofs.Unrefused.{verdict_ok, parents_unrefused}
use Rattle.gl_graph.proofs.NewNodes.{inner_lawful}
use Rattle.gl_graph.proofs.graph.Graph.add_inner.Goals as goal

pub insert-requires-clause-lawful : goal.insert-requires-clause-lawful
insert-requires-clause-lawful c = λ key law free.
    let may = parents_unrefused (graph_of c.args.self.now) 0 c.args.parents.now (verdict_ok _ _ c.in_ok-check_parents.ensures) in
    subst (λ shape. IsLawfulGraph (born_node (graph_of c.args.self.now) (record { key = key; shape = shape; parents = c.args.parents.now })))
    (sym c.in-Ok.ensures.shape) (inner_lawful (graph_of c.args.self.now) law key c.args.parents.now may.inner free may.room)
