use Rattle.std.specs.Prelude.{◌≡◌, ◌+◌, take}
use Rattle.gl_graph.specs.Changes.{rekeyed_parents}
use Rattle.gl_catalog.specs.Manager.{state_of}
use Rattle.gl_catalog.proofs.manager.Manager.parents_with.Given as goal

-- the file, and the intervals of the indexes so far
abbrev pub invariant-loop-place : goal.invariant-loop-place
invariant-loop-place l = l.parents.items ≡ take (l.place + 1) (rekeyed_parents (state_of l.self).graph l.fn.rec l.index l.key)
