use Rattle.gl_interpreter.proofs.Words.{◌++◌, ◌≡◌, blocker_row, flat_map, Hands, script_of, slots_of}
use Rattle.gl_interpreter.proofs.listings.put_each_blocker.Given as goal

-- the rows of the slots so far; these and the remaining ones are all
abbrev pub invariant-loop-slot : goal.invariant-loop-slot
invariant-loop-slot g l =
    Hands (g.W.Write.contents l.fn.writer) l.fn.sink (g.W.Write.contents l.writer) l.sink (flat_map (blocker_row (script_of l.desk)) l.yielded)
    × (l.yielded ++ slots_of l.slot-iterator.left ≡ slots_of l.fn.slots)
