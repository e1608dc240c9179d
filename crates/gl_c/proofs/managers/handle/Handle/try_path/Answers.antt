use Rattle.std.specs.Prelude.{Some}
use Rattle.std.proofs.Common.{rules, ◌≡◌}
use Rattle.gl_c.specs.locks.Tries.{tried_path_call}
use Rattle.gl_c.specs.managers.Handle.{guarded_in}
use Rattle.gl_c.proofs.Carrying.{carried}
use Rattle.gl_c.proofs.managers.handle.Handle.try_path.Goals as goal

pub returns : goal.returns
returns c =
    let from : c.deref_mut.result.now ≡ c.in-Some.session.value = search rules in
    let to : guarded_in c.of.result ≡ Some c.try_path-reply.new.self = search rules in
    carried (tried_path_call c.args.keep c.args.txn
    (c.args.node, c.args.mode)) _ c.in-Some.session.value c.deref_mut.result.now c.try_path-reply.new.self c.try_path-reply.result (guarded_in c.of.result)
    c.in-Some.ensures.taken from to c.try_path-reply.new.notices c.try_path-reply.ensures
