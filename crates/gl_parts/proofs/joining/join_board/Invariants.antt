use Rattle.std.specs.Prelude.{◌≡◌, ℕ, ◌||◌, ◌&&◌, nat_lt}
use Rattle.gl_waits.specs.Boards.{board_edge}
use Rattle.gl_parts.proofs.joining.join_board.Given as goal

-- the rows so far have the waits of both boards, and the others those that they had
abbrev pub invariant-rows : goal.invariant-rows
invariant-rows l = record {
  waits : (t u : ℕ) → board_edge l.joined t u ≡ (board_edge l.initial.joined t u || (nat_lt t l.slot && board_edge l.added t u));
  ages : l.joined.ages ≡ l.initial.joined.ages;
  epoch : l.joined.epoch ≡ l.initial.joined.epoch;
}
