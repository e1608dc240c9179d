use Rattle.std.specs.Prelude.{Some}
use Rattle.std.proofs.Common.{rules, ◌≡◌}
use Rattle.gl_c.specs.locks.Paths.{path_call}
use Rattle.gl_c.specs.managers.Handle.{guarded_in}
use Rattle.gl_c.proofs.Carrying.{carried}
use Rattle.gl_c.proofs.managers.handle.Handle.lock_path.Goals as goal

pub returns : goal.returns
returns c =
    let from : c.deref_mut.result.now ≡ c.in-Some.session.value = search rules in
    let to : guarded_in c.of.result ≡ Some c.lock_path-reply.new.self = search rules in
    carried (path_call c.args.txn
    (c.args.node, c.args.mode)) _ c.in-Some.session.value c.deref_mut.result.now c.lock_path-reply.new.self c.lock_path-reply.result (guarded_in c.of.result)
    c.in-Some.ensures.taken from to c.lock_path-reply.new.notices c.lock_path-reply.ensures
