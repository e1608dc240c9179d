use Rattle.gl_graph.proofs.Words.{graph_of}
use Rattle.gl_graph.proofs.Adopted.{file_stays}
use Rattle.gl_graph.proofs.graph.Graph.adopt_record.Goals as goal

pub mark_adopted-requires : goal.mark_adopted-requires
mark_adopted-requires c =
    file_stays (graph_of c.args.self.now)
    (graph_of c.add_record.new.self) c.law.ensures.lawful c.args.file c.args.keys.now c.in_ok-rec.rec c.in_ok-rec.ensures.refuses _
    c.in_ok-rec.ensures.made.after
