use Rattle.std.specs.Prelude.{◌≡◌, ◌+◌, length}
use Rattle.gl_slots.specs.Slots.{number_of, slots_of}
use Rattle.gl_catalog.specs.Counters.{waiting_in}
use Rattle.gl_catalog.specs.Manager.{state_of}
use Rattle.gl_catalog.proofs.manager.Manager.waiting_now.Given as goal

-- those that were counted, and those that are left
abbrev pub invariant-loop-waiter : goal.invariant-loop-waiter
invariant-loop-waiter l = l.waiting + length (slots_of l.left) ≡ waiting_in (state_of l.self)

-- each that is counted leaves fewer
abbrev pub decreases-loop-waiter : goal.decreases-loop-waiter
decreases-loop-waiter l = number_of l.left
