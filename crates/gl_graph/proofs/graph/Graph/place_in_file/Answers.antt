use Rattle.gl_graph.proofs.Words.{graph_of, sym, ◌∙◌}
use Rattle.gl_graph.proofs.Places.{its_file, listed_in_file}
use Rattle.gl_graph.proofs.graph.Graph.place_in_file.Goals as goal

pub index_place-requires-clause-file : goal.index_place-requires-clause-file
index_place-requires-clause-file c =
    its_file (graph_of c.args.self.now) c.law.ensures.lawful c.args.index c.in-Some.file (sym c.file_of_index.ensures ∙ c.in-Some.is)

pub index_place-requires-clause-listed : goal.index_place-requires-clause-listed
index_place-requires-clause-listed c =
    listed_in_file (graph_of c.args.self.now) c.law.ensures.lawful c.args.index c.in-Some.file (sym c.file_of_index.ensures ∙ c.in-Some.is)
