use Rattle.gl_slots.specs.Limit.{most_slots}
use Rattle.std.specs.Prelude.{◌≡◌, length, map, take}
use Rattle.gl_c.specs.Boards.{set_of}
use Rattle.gl_c.proofs.boards.board.Board.read.Given as goal

-- the rows so far are the sets of the rows in C's memory
abbrev pub invariant-loop-slot : goal.invariant-loop-slot
invariant-loop-slot l = record {
  rows : map set_of (take l.slot l.self.rows) ≡ take l.slot l.rows;
  long : length l.rows ≡ most_slots;
  theirs : length l.self.rows ≡ most_slots;
}
