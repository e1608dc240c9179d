use Rattle.std.proofs.Common.{refl}
use Rattle.gl_waiting.proofs.Runs.{call_made}
use Rattle.gl_waiting.proofs.waiters.unlock.Goals as goal

pub returns-clause-call : goal.returns-clause-call
returns-clause-call c = (
  call_made c.args.delivery.now c.serve-answer.new.self _ c.serve-answer.new.told.items c.serve-answer.result.1 c.serve-answer.ensures.carries
      c.serve-answer.ensures.run,
  refl,
  refl,
  λ u apart. apart,
)

pub returns-clause-unlocks : goal.returns-clause-unlocks
returns-clause-unlocks c =
    let made = c.serve-answer.ensures.serves in (made.0, made.2)
