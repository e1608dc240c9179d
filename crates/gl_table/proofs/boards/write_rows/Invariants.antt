use Rattle.gl_table.proofs.Words.{◌≡◌, length, number_of, shown, waits_for}
use Rattle.gl_table.proofs.inside.Boards.{AreRowsBut}
use Rattle.gl_table.proofs.boards.write_rows.Given as goal

-- each row is right, or its slot is left and it is 0
abbrev pub invariant-loop-slot : goal.invariant-loop-slot
invariant-loop-slot l = (length l.rows ≡ length l.fn.rows) × AreRowsBut (waits_for (shown l.headers.entries l.txn_entries.items 0)) l.left l.rows

-- each slot that is removed leaves fewer
abbrev pub decreases-loop-slot : goal.decreases-loop-slot
decreases-loop-slot l = number_of l.left
