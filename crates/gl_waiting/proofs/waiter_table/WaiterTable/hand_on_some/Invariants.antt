use Rattle.gl_waiting.specs.Asking.{HandsOnIf}
use Rattle.std.proofs.Common.{length}
use Rattle.gl_waiting.proofs.waiter_table.WaiterTable.hand_on_some.Given as goal

abbrev pub invariant-begins : goal.invariant-begins
invariant-begins l = record { hands : HandsOnIf l.went_on l.initial.self l.self }

abbrev pub decreases-begins : goal.decreases-begins
decreases-begins l = length l.self.queue
