use Rattle.gl_waits.proofs.Words.{◌<◌, ◌≡◌, board_edge, false, ℕ}
use Rattle.gl_waits.proofs.board.Board.shows_nobody.Given as goal

abbrev pub invariant-loop-row : goal.invariant-loop-row
invariant-loop-row l = (s u : ℕ) → s < l.row-index → board_edge l.self s u ≡ false
