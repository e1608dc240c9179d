-- What a call of the manager does besides its step, if it is not refused.
use Rattle.std.specs.Prelude.{◌≡◌, ◌+◌}
use Rattle.gl_steps.specs.declared.command.Answer.{Answer}
use Rattle.gl_steps.specs.declared.command.Command.{Command}
use Rattle.gl_catalog.specs.Counters.{counted}
use Rattle.gl_catalog.specs.Deadlocks.{KeepsAccepted, KeepsDeadlock}
use Rattle.gl_catalog.specs.Manager.{ManagerView, state_of}
use Rattle.gl_steps.specs.Promises.{KeepsCaller, SettlesIdle, StepLeavesOthers}
use Rattle.gl_catalog.specs.Replies.{Says}
use Rattle.gl_steps.specs.Step.{Step}
use Rattle.gl_model.specs.Tellings.{Told}
use Rattle.gl_table.specs.Table.{KeepsOrders}

-- a command with this answer is accepted once and counted, records deadlocks, and leaves its caller, all others and those on no cycle what it promises;
-- no lock that stays moves to a later place of its transaction's list
pub record Completes (c : Command) (m : ManagerView) (r : Says) (m' : ManagerView) : Type 0 where
  pub accepted : m'.accepted ≡ m.accepted + 1
  pub counters : m'.counters ≡ counted (state_of m) c r.0 r.1 (state_of m') m.counters
  pub deadlock : KeepsAccepted c m m'
  pub caller : KeepsCaller c (state_of m) (state_of m')
  pub others : StepLeavesOthers (state_of m) c r (state_of m')
  pub settles : SettlesIdle (state_of m) c r.0 r.1 (state_of m')
  pub orders : KeepsOrders m.table m'.table

-- a command had this answer: it is a step, records deadlocks as it must, and is counted; if no more were accepted, nothing changed; locks keep their order
pub record IsCarriedOut (m : ManagerView) (c : Command) (a : Answer) (told : Told) (m' : ManagerView) : Type 0 where
  pub step : Step (state_of m) c a told (state_of m')
  pub deadlock : KeepsDeadlock c m a m'
  pub counters : m'.counters ≡ counted (state_of m) c a told (state_of m') m.counters
  pub same : m'.accepted ≡ m.accepted → m' ≡ m
  pub orders : KeepsOrders m.table m'.table
