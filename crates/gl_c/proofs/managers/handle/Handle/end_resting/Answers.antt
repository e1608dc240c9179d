use Rattle.std.specs.Prelude.{Some}
use Rattle.std.proofs.Common.{rules, ◌≡◌}
use Rattle.gl_c.specs.locks.Resting.{end_call}
use Rattle.gl_c.specs.managers.Handle.{guarded_in}
use Rattle.gl_c.proofs.Carrying.{carried}
use Rattle.gl_c.proofs.managers.handle.Handle.end_resting.Goals as goal

pub returns : goal.returns
returns c =
    let from : c.deref_mut.result.now ≡ c.in-Some.session.value = search rules in
    let to : guarded_in c.of.result ≡ Some c.end_resting-reply.new.self = search rules in
    carried (end_call c.args.whom c.args.number) _ c.in-Some.session.value c.deref_mut.result.now c.end_resting-reply.new.self c.end_resting-reply.result
    (guarded_in c.of.result)
    c.in-Some.ensures.taken from to c.end_resting-reply.new.notices c.end_resting-reply.ensures
