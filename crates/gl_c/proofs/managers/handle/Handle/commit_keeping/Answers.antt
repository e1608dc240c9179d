use Rattle.std.specs.Prelude.{Some}
use Rattle.std.proofs.Common.{rules, ◌≡◌}
use Rattle.gl_c.specs.locks.Savepoints.{keeping_call}
use Rattle.gl_c.specs.managers.Handle.{guarded_in}
use Rattle.gl_c.proofs.Carrying.{carried}
use Rattle.gl_c.proofs.managers.handle.Handle.commit_keeping.Goals as goal

pub returns : goal.returns
returns c =
    let from : c.deref_mut.result.now ≡ c.in-Some.session.value = search rules in
    let to : guarded_in c.of.result ≡ Some c.commit_keeping-reply.new.self = search rules in
    carried (keeping_call c.args.txn c.args.keep c.args.since) _ c.in-Some.session.value c.deref_mut.result.now c.commit_keeping-reply.new.self
    c.commit_keeping-reply.result
    (guarded_in c.of.result)
    c.in-Some.ensures.taken from to c.commit_keeping-reply.new.notices c.commit_keeping-reply.ensures
