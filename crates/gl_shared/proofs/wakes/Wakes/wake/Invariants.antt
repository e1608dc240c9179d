use Rattle.gl_slots.specs.Slots.{number_of}
use Rattle.gl_shared.proofs.wakes.Wakes.wake.Given as goal

abbrev pub decreases-loop-slot : goal.decreases-loop-slot
decreases-loop-slot l = number_of l.left
