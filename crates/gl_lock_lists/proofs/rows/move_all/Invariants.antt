use Rattle.gl_lock_lists.proofs.Words.{◌+◌, ◌≡◌, ◌≤◌, spare, take}
use Rattle.gl_lock_lists.proofs.rows.move_all.Given as goal

-- the entries so far are in the hash map
abbrev pub invariant-loop-row : goal.invariant-loop-row
invariant-loop-row g l = record {
  moved : l.map.entries ≡ take l.row-index l.fn.rows.items;
  room : spare l.fn.map ≤ spare l.map + l.row-index;
}
