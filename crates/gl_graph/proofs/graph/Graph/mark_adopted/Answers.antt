use Rattle.gl_graph.proofs.Beside.{held, law_of}
use Rattle.gl_graph.proofs.Written.{file_contained, marked_graph, marked_sound}
use Rattle.gl_graph.proofs.graph.Graph.mark_adopted.Goals as goal

pub write_adopted-requires : goal.write_adopted-requires
write_adopted-requires c =
    file_contained (held c.self.inside c.self.invariant c.args.self.now c.self.view_is)
    (law_of c.self.inside c.self.invariant c.args.self.now c.self.view_is) c.args.file c.requires

pub invariant_of-self : goal.invariant_of-self
invariant_of-self c =
    marked_sound (held c.self.inside c.self.invariant c.args.self.now c.self.view_is)
    (law_of c.self.inside c.self.invariant c.args.self.now c.self.view_is) c.args.file c.requires c.write_adopted.ensures.written c.write_adopted.ensures.len

pub returns-clause-marked : goal.returns-clause-marked
returns-clause-marked c =
    marked_graph (held c.self.inside c.self.invariant c.args.self.now c.self.view_is)
    (law_of c.self.inside c.self.invariant c.args.self.now c.self.view_is) c.args.file c.requires c.write_adopted.ensures.written c.write_adopted.ensures.len
