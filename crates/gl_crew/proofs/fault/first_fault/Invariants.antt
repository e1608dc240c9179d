use Rattle.std.specs.Prelude.{◌≡◌, drop}
use Rattle.gl_crew.specs.Crews.{first_fault}
use Rattle.gl_crew.proofs.fault.first_fault.Given as goal

abbrev pub invariant-loop-fault : goal.invariant-loop-fault
invariant-loop-fault l = first_fault l.fn.faults ≡ first_fault (drop l.fault-index l.fn.faults)
