use Rattle.gl_graph.proofs.Words.{graph_of, ◌∙◌}
use Rattle.gl_graph.proofs.Beside.{held, law_of}
use Rattle.gl_graph.proofs.Written.{inner_live, contained, movable_there, olds_kept, news_kept, moved_sound, moved_graph}
use Rattle.gl_graph.proofs.graph.Graph.set_parents.Goals as goal

pub check_cycles-requires : goal.check_cycles-requires
check_cycles-requires c = inner_live (graph_of c.args.self.now) c.args.parents.now c.requires.parents.inner

pub write_parents-old-requires : goal.write_parents-old-requires
write_parents-old-requires c =
    let h = held c.self.inside c.self.invariant c.args.self.now c.self.view_is in
    let law = law_of c.self.inside c.self.invariant c.args.self.now c.self.view_is in
    record { there = contained h law c.args.n c.requires.node; movable = movable_there h law c.args.n c.requires.node }

pub count_down-requires : goal.count_down-requires
count_down-requires c =
    let kept = olds_kept (held c.self.inside c.self.invariant c.args.self.now c.self.view_is)
    (law_of c.self.inside c.self.invariant c.args.self.now c.self.view_is) c.args.n c.requires.node c.args.parents.now c.requires.parents
    c.in_ok-check_cycles.ensures.clear c.in-Ok.fresh c.in-Ok.ensures.items c.write_parents-old.ensures.written c.write_parents-old.ensures.len
    c.as_slice.result.now (λ y e. c.as_slice.ensures.value ∙ c.write_parents-old.ensures.old y e) in
    record { stored = kept.stored; some = kept.each }

pub count_up-requires : goal.count_up-requires
count_up-requires c =
    let kept = news_kept (held c.self.inside c.self.invariant c.args.self.now c.self.view_is)
    (law_of c.self.inside c.self.invariant c.args.self.now c.self.view_is) c.args.n c.requires.node c.args.parents.now c.requires.parents
    c.in_ok-check_cycles.ensures.clear _ c.in-Ok.ensures.items c.write_parents-old.ensures.written c.write_parents-old.ensures.len _
    (λ y e. c.as_slice.ensures.value ∙ c.write_parents-old.ensures.old y e) _ c.count_down.ensures.counted in
    record { stored = kept.stored; room = kept.each }

pub invariant_of-self : goal.invariant_of-self
invariant_of-self c =
    moved_sound (held c.self.inside c.self.invariant c.args.self.now c.self.view_is) (law_of c.self.inside c.self.invariant c.args.self.now c.self.view_is)
    c.args.n c.requires.node c.args.parents.now c.requires.parents c.in_ok-check_cycles.ensures.clear _ c.in-Ok.ensures.items
    c.write_parents-old.ensures.written c.write_parents-old.ensures.len _ (λ y e. c.as_slice.ensures.value ∙ c.write_parents-old.ensures.old y e) _
    c.count_down.ensures.counted _ c.count_up.ensures.counted

pub returns-clause-moved : goal.returns-clause-moved
returns-clause-moved c =
    moved_graph (held c.self.inside c.self.invariant c.args.self.now c.self.view_is) (law_of c.self.inside c.self.invariant c.args.self.now c.self.view_is)
    c.args.n c.requires.node c.args.parents.now c.requires.parents c.in_ok-check_cycles.ensures.clear _ c.in-Ok.ensures.items
    c.write_parents-old.ensures.written c.write_parents-old.ensures.len _ (λ y e. c.as_slice.ensures.value ∙ c.write_parents-old.ensures.old y e) _
    c.count_down.ensures.counted _ c.count_up.ensures.counted
