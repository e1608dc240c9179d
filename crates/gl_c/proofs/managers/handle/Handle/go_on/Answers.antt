use Rattle.std.specs.Prelude.{Some}
use Rattle.std.proofs.Common.{rules, ◌≡◌}
use Rattle.gl_c.specs.locks.Waiters.{on_call}
use Rattle.gl_c.specs.managers.Handle.{guarded_in}
use Rattle.gl_c.proofs.Carrying.{carried}
use Rattle.gl_c.proofs.managers.handle.Handle.go_on.Goals as goal

pub returns : goal.returns
returns c =
    let from : c.deref_mut.result.now ≡ c.in-Some.session.value = search rules in
    let to : guarded_in c.of.result ≡ Some c.go_on-reply.new.self = search rules in
    carried on_call _ c.in-Some.session.value c.deref_mut.result.now c.go_on-reply.new.self c.go_on-reply.result
    (guarded_in c.of.result)
    c.in-Some.ensures.taken from to c.go_on-reply.new.notices c.go_on-reply.ensures
