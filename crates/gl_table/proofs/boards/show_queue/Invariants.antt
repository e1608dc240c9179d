use Rattle.gl_table.proofs.Words.{◌≡◌, has_slot, is_among_waiters, length, shown, take, waits_for, ℕ}
use Rattle.gl_table.proofs.inside.Boards.{AreRowsShown}
use Rattle.gl_table.proofs.boards.show_queue.Given as goal

-- the set has the slots so far, and each row is as it was or right
abbrev pub invariant-loop-slot : goal.invariant-loop-slot
invariant-loop-slot l = record {
  len : length l.rows ≡ length l.fn.rows;
  passed : (u : ℕ) → has_slot l.passed u ≡ is_among_waiters u (take l.slot-index l.slot-items);
  rows : AreRowsShown (waits_for (shown l.headers.entries l.txn_entries 0)) l.fn.rows l.rows;
}
