use Rattle.std.specs.Prelude.{◌≡◌, map, take}
use Rattle.gl_c.specs.questions.Deadlocks.{stuck_of}
use Rattle.gl_c.proofs.questions.deadlock.Deadlock.put_all.Given as goal

-- the places so far have those on the cycle so far
abbrev pub invariant-loop-place : goal.invariant-loop-place
invariant-loop-place l = (take l.place l.self.at ≡ map stuck_of (take l.place l.cycle)) × (l.self.victim ≡ l.initial.self.victim)
