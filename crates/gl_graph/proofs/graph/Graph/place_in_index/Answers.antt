use Rattle.gl_graph.proofs.Words.{graph_of, none_some, sym, ◌∙◌}
use Rattle.gl_graph.proofs.Places.{place_found}
use Rattle.gl_graph.proofs.graph.Graph.place_in_index.Goals as goal

pub unreachable-requires : goal.unreachable-requires
unreachable-requires c =
    none_some (sym c.in-None.is ∙ c.place.ensures ∙ place_found (graph_of c.args.self.now) c.law.ensures.lawful c.args.interval c.requires)
