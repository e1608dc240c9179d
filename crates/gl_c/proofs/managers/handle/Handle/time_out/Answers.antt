use Rattle.std.specs.Prelude.{Some}
use Rattle.std.proofs.Common.{rules, ◌≡◌}
use Rattle.gl_c.specs.locks.Waiters.{late_call}
use Rattle.gl_c.specs.managers.Handle.{guarded_in}
use Rattle.gl_c.proofs.Carrying.{carried}
use Rattle.gl_c.proofs.managers.handle.Handle.time_out.Goals as goal

pub returns : goal.returns
returns c =
    let from : c.deref_mut.result.now ≡ c.in-Some.session.value = search rules in
    let to : guarded_in c.of.result ≡ Some c.time_out-reply.new.self = search rules in
    carried (late_call c.args.txn) _ c.in-Some.session.value c.deref_mut.result.now c.time_out-reply.new.self c.time_out-reply.result
    (guarded_in c.of.result)
    c.in-Some.ensures.taken from to c.time_out-reply.new.notices c.time_out-reply.ensures
