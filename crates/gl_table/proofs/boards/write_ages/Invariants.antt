use Rattle.gl_table.proofs.Words.{◌≡◌, length, number_of}
use Rattle.gl_table.proofs.inside.Boards.{age_at, AreAgesBut}
use Rattle.gl_table.proofs.boards.write_ages.Given as goal

-- the ages are written but those of the slots that are left
abbrev pub invariant-loop-slot : goal.invariant-loop-slot
invariant-loop-slot l = (length l.ages ≡ length l.fn.ages) × AreAgesBut (age_at l.txn_entries.items) l.left l.ages

-- each age leaves fewer slots
abbrev pub decreases-loop-slot : goal.decreases-loop-slot
decreases-loop-slot l = number_of l.left
