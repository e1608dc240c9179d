use Rattle.gl_graph.proofs.Words.{refl}
use Rattle.gl_graph.proofs.Added.{plain_kept, plain_sound, plain_born}
use Rattle.gl_graph.proofs.Beside.{held, law_of}
use Rattle.gl_graph.proofs.graph.Graph.insert.Goals as goal

pub count_up-requires : goal.count_up-requires
count_up-requires c =
    let kept = plain_kept (held c.self.inside c.self.invariant c.args.self.now c.self.view_is)
    (law_of c.self.inside c.self.invariant c.args.self.now c.self.view_is) _ _ c.in-Ok.ensures.was_vacant c.in-Ok.ensures.updates refl c.in-Ok.ensures.len
    c.requires.plain c.args.parents.now c.requires.under c.requires.parents (c.requires.lawful c.in-Ok.key) in
    record { stored = kept.stored; room = kept.each }

pub invariant_of-self-2 : goal.invariant_of-self-2
invariant_of-self-2 c =
    plain_sound (held c.self.inside c.self.invariant c.args.self.now c.self.view_is) (law_of c.self.inside c.self.invariant c.args.self.now c.self.view_is) _
    _ c.in-Ok.ensures.was_vacant c.in-Ok.ensures.updates refl c.in-Ok.ensures.len c.requires.plain c.args.parents.now c.requires.under c.requires.parents
    (c.requires.lawful c.in-Ok.key) _ c.count_up.ensures.counted

pub returns-clause-made : goal.returns-clause-made
returns-clause-made c =
    plain_born (held c.self.inside c.self.invariant c.args.self.now c.self.view_is) (law_of c.self.inside c.self.invariant c.args.self.now c.self.view_is) _ _
    c.in-Ok.ensures.was_vacant c.in-Ok.ensures.updates refl c.in-Ok.ensures.len c.requires.plain c.args.parents.now c.requires.under c.requires.parents
    (c.requires.lawful c.in-Ok.key) _ c.count_up.ensures.counted
