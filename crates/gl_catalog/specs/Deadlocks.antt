-- What a command records of deadlocks.
use Rattle.std.specs.Prelude.{◌≡◌}
use Rattle.gl_model.specs.declared.deadlock.Deadlock.{Deadlock}
use Rattle.gl_model.specs.Deadlocks.{LocksKeeping, SettlesKeeping}
use Rattle.gl_model.specs.State.{State, counting}
use Rattle.gl_steps.specs.declared.command.Answer.{Answer}
use Rattle.gl_steps.specs.declared.command.Answer.TheVariants as answer
use Rattle.gl_steps.specs.declared.command.Command.{Command}
use Rattle.gl_steps.specs.declared.command.Command.TheVariants as command
use Rattle.gl_catalog.specs.Manager.{ManagerView, state_of}

-- a command that is not refused: a lock and a settle record the last deadlock that they end; all else keeps the recorded one
abbrev pub Keeps : State → Command → Deadlock → State → Deadlock → Type 0
Keeps s (command.Lock t n m) d s' d' = LocksKeeping s t.slot n m d s' d'
Keeps s (command.Settle t) d s' d' = SettlesKeeping s.victims s t.slot d s' d'
Keeps s c d s' d' = d' ≡ d

-- the same of managers, the count of accepted commands aside
abbrev pub KeepsAccepted : Command → ManagerView → ManagerView → Type 0
KeepsAccepted c v v' = Keeps (state_of v) c v.table.deadlock (counting v.accepted (state_of v')) v'.table.deadlock

-- the same by its answer: a refused command keeps the recorded deadlock
abbrev pub KeptBy : Command → State → Deadlock → Answer → State → Deadlock → Type 0
KeptBy c s d (answer.Refused r) s' d' = d' ≡ d
KeptBy c s d a s' d' = Keeps s c d (counting s.accepted s') d'

-- the same of managers
abbrev pub KeepsDeadlock : Command → ManagerView → Answer → ManagerView → Type 0
KeepsDeadlock c v a v' = KeptBy c (state_of v) v.table.deadlock a (state_of v') v'.table.deadlock
