use Rattle.std.specs.Prelude.{Some}
use Rattle.std.proofs.Common.{rules, ◌≡◌}
use Rattle.gl_rows.specs.Locking.{Wish}
use Rattle.gl_c.specs.locks.Tries.{tried_row_call}
use Rattle.gl_c.specs.managers.Handle.{guarded_in}
use Rattle.gl_c.proofs.Carrying.{carried}
use Rattle.gl_c.proofs.managers.handle.Handle.try_row.Goals as goal

pub returns : goal.returns
returns c =
    let wish : Wish = record { txn = c.args.txn; row = c.args.row; keys = c.args.keys; mode = c.args.mode } in
    let from : c.deref_mut.result.now ≡ c.in-Some.session.value = search rules in
    let to : guarded_in c.of.result ≡ Some c.try_row-reply.new.self = search rules in
    carried (tried_row_call wish) _ c.in-Some.session.value c.deref_mut.result.now c.try_row-reply.new.self c.try_row-reply.result (guarded_in c.of.result)
    c.in-Some.ensures.taken from to c.try_row-reply.new.notices c.try_row-reply.ensures
