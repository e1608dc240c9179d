use Rattle.gl_slots.specs.Limit.{most_slots}
use Rattle.std.specs.Prelude.{◌≡◌, length, map, take}
use Rattle.gl_c.specs.Boards.{set_of}
use Rattle.gl_c.proofs.boards.board.Board.put.Given as goal

-- the rows so far say what the board's say, and the rest was written before
abbrev pub invariant-loop-slot : goal.invariant-loop-slot
invariant-loop-slot l = record {
  rows : map set_of (take l.slot l.self.rows) ≡ take l.slot l.board.rows;
  long : length l.self.rows ≡ most_slots;
  theirs : length l.board.rows ≡ most_slots;
  ages : l.self.ages ≡ l.board.ages;
  epoch : l.self.epoch ≡ l.board.epoch;
}
