use Rattle.std.proofs.Common.{ap, ◌∙◌}
use Rattle.gl_script.specs.Left.{left, fields_of}
use Rattle.gl_script.proofs.Splitting.{split_first, split_last}
use Rattle.gl_script.proofs.fields.Fields.next.Goals as goal

pub returns-in-Some-clause-some : goal.returns-in-Some-clause-some
unfolding left
returns-in-Some-clause-some c =
    ap fields_of c.in_ok-rest.was
    ∙ split_first c.in_ok-rest.rest.now c.in-Some.field.now c.in-Some.more.now c.in-Some.ensures.found.0 c.in-Some.ensures.found.1

pub returns-in-None-clause-some : goal.returns-in-None-clause-some
unfolding left
returns-in-None-clause-some c = ap fields_of c.in_ok-rest.was ∙ split_last c.in_ok-rest.rest.now c.in-None.ensures.none
