use Rattle.gl_graph.proofs.RootPaths.{root_path_there, root_path_grows, root_path_shrinks}
use Rattle.gl_graph.proofs.laws.root_path_laws.Goals as goal

pub returns : goal.returns
returns c = record { exist = root_path_there; grow = root_path_grows; shrink = root_path_shrinks }
