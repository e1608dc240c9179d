use Rattle.gl_shared.proofs.parts.Parts.with_telling.Goals as goal

pub invariant_of-parts : goal.invariant_of-parts
invariant_of-parts c = let p = c.args.self in record { cut = p.cut; head_is = p.head_is; one = p.one; rest = p.rest; tie = p.tie; looking = p.looking }
