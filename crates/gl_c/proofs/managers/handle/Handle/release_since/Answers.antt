use Rattle.std.specs.Prelude.{Some}
use Rattle.std.proofs.Common.{rules, ◌≡◌}
use Rattle.gl_c.specs.locks.Savepoints.{back_call}
use Rattle.gl_c.specs.managers.Handle.{guarded_in}
use Rattle.gl_c.proofs.Carrying.{carried}
use Rattle.gl_c.proofs.managers.handle.Handle.release_since.Goals as goal

pub returns : goal.returns
returns c =
    let from : c.deref_mut.result.now ≡ c.in-Some.session.value = search rules in
    let to : guarded_in c.of.result ≡ Some c.release_since-reply.new.self = search rules in
    carried (back_call c.args.txn c.args.mark) _ c.in-Some.session.value c.deref_mut.result.now c.release_since-reply.new.self c.release_since-reply.result
    (guarded_in c.of.result)
    c.in-Some.ensures.taken from to c.release_since-reply.new.notices c.release_since-reply.ensures
