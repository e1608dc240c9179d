use Rattle.std.proofs.Common.{refl, inr}
use Rattle.gl_catalog.specs.Manager.{state_of}
use Rattle.gl_steps.specs.declared.command.Command.TheVariants as command
use Rattle.gl_waiting.proofs.Runs.{call_made, own_same}
use Rattle.gl_waiting.proofs.waiters.continue_by.Goals as goal

pub returns-in-End-clause-call : goal.returns-in-End-clause-call
returns-in-End-clause-call c = (
  call_made c.args.delivery.now c.args.delivery.now command.Begin c.args.told.now.items c.empty.result
      (inr (record { same = refl; untold = c.requires.empty; none = c.empty.ensures.none })) (own_same command.Begin (state_of c.args.delivery.now.manager)
      (state_of c.args.delivery.now.manager) refl),
  refl,
  refl,
  λ u apart. refl,
)

pub returns-in-GoOn-clause-call : goal.returns-in-GoOn-clause-call
returns-in-GoOn-clause-call c = (
  call_made c.args.delivery.now c.lock_path-reached.new.self _ c.lock_path-reached.new.told.items c.lock_path-reached.result.1
      c.lock_path-reached.ensures.carries c.lock_path-reached.ensures.run,
  refl,
  refl,
  λ u apart. apart,
)

pub returns-in-LockAgain-clause-call : goal.returns-in-LockAgain-clause-call
returns-in-LockAgain-clause-call c = (
  call_made c.args.delivery.now c.lock_row-locked.new.self _ c.lock_row-locked.new.told.items c.lock_row-locked.result.1
      c.lock_row-locked.ensures.carries c.lock_row-locked.ensures.run,
  refl,
  refl,
  λ u apart. apart,
)

pub returns-in-LockRow-clause-call : goal.returns-in-LockRow-clause-call
returns-in-LockRow-clause-call c = (
  call_made c.args.delivery.now c.lock_row-outcome.new.self _ c.lock_row-outcome.new.told.items c.lock_row-outcome.result.1
      c.lock_row-outcome.ensures.carries c.lock_row-outcome.ensures.run,
  refl,
  refl,
  λ u apart. apart,
)
