use Rattle.std.proofs.Common.{arith}
use Rattle.gl_catalog.specs.Manager.{state_of}
use Rattle.gl_rows.specs.Locking.{Wish}
use Rattle.gl_rows.proofs.Accepted.{forget_ok}
use Rattle.gl_rows.proofs.Adopted.{old_may_go}
use Rattle.gl_rows.proofs.rows.lock.renew.Goals as goal

pub unwrap-requires : goal.unwrap-requires
unwrap-requires c =
    let w : Wish = record { txn = c.args.t; row = record { file = c.args.file; number = 0 }; keys = c.args.keys; mode = c.args.mode } in
    forget_ok (state_of c.adopt_locked.new.self) (state_of c.forget.new.self) c.args.old c.forget.result
    (old_may_go c.args.manager.now c.adopt_locked.new.self c.law.ensures.lawful w c.in_ok-node.node c.in_ok-node.ensures.adopts c.args.old c.requires.record
    c.requires.idle (omega (arith, c.if-accepted.false, c.accepted.ensures)))
    c.forget.ensures.step
