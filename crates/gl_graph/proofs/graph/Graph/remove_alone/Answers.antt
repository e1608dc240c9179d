use Rattle.gl_graph.proofs.Beside.{held, law_of}
use Rattle.gl_graph.proofs.Taken.{alone_graph, alone_kept, alone_sound, node_contained}
use Rattle.gl_graph.proofs.graph.Graph.remove_alone.Goals as goal

pub remove-body-requires : goal.remove-body-requires
remove-body-requires c =
    node_contained (held c.self.inside c.self.invariant c.args.self.now c.self.view_is)
    (law_of c.self.inside c.self.invariant c.args.self.now c.self.view_is) c.args.n c.requires.movable c.requires.free

pub count_down-requires : goal.count_down-requires
count_down-requires c =
    let kept = alone_kept (held c.self.inside c.self.invariant c.args.self.now c.self.view_is)
    (law_of c.self.inside c.self.invariant c.args.self.now c.self.view_is) c.args.n c.requires.movable c.requires.free c.requires.alone _
    c.remove-body.ensures.updates c.remove-body.ensures.len _ c.remove-body.ensures.value _ c.parents.ensures in
    record { stored = kept.stored; some = kept.each }

pub invariant_of-self : goal.invariant_of-self
invariant_of-self c =
    alone_sound (held c.self.inside c.self.invariant c.args.self.now c.self.view_is) (law_of c.self.inside c.self.invariant c.args.self.now c.self.view_is)
    c.args.n c.requires.movable c.requires.free c.requires.alone _ c.remove-body.ensures.updates c.remove-body.ensures.len _ c.remove-body.ensures.value _
    c.parents.ensures _ c.count_down.ensures.counted

pub returns : goal.returns
returns c = record {
  removed = alone_graph (held c.self.inside c.self.invariant c.args.self.now c.self.view_is)
      (law_of c.self.inside c.self.invariant c.args.self.now c.self.view_is) c.args.n c.requires.movable c.requires.free c.requires.alone _
      c.remove-body.ensures.updates c.remove-body.ensures.len _ c.remove-body.ensures.value _ c.parents.ensures _ c.count_down.ensures.counted;
}
