use Rattle.std.specs.Prelude.{◌≡◌, map, take}
use Rattle.gl_c.specs.answers.Notices.{notice_of}
use Rattle.gl_c.proofs.answers.notices.Notices.put.Given as goal

-- the places so far have the notices so far
abbrev pub invariant-loop-place : goal.invariant-loop-place
invariant-loop-place l = take l.place l.self.at ≡ map notice_of (take l.place l.told)
