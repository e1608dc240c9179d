use Rattle.std.specs.Prelude.{Some}
use Rattle.std.proofs.Common.{rules, ◌≡◌}
use Rattle.gl_c.specs.locks.Turns.{turn_call}
use Rattle.gl_c.specs.managers.Handle.{guarded_in}
use Rattle.gl_c.proofs.Carrying.{asked}
use Rattle.gl_c.proofs.managers.handle.Handle.begin_in_turn.Goals as goal

pub returns : goal.returns
returns c =
    let from : c.deref_mut.result.now ≡ c.in-Some.session.value = search rules in
    let to : guarded_in c.of.result ≡ Some c.begin_in_turn-reply.new.self = search rules in
    asked (turn_call c.args.begin) _ c.in-Some.session.value c.deref_mut.result.now c.begin_in_turn-reply.new.self c.begin_in_turn-reply.result
    (guarded_in c.of.result)
    c.in-Some.ensures.taken from to c.begin_in_turn-reply.ensures
