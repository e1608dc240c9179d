use Rattle.gl_window.proofs.Words.{◌≡◌, ◌≤◌, AtBlock, last_epoch}
use Rattle.gl_window.proofs.tests.watch_all.Given as goal

-- no list is newer than the board
abbrev pub invariant-loop-watcher : goal.invariant-loop-watcher
invariant-loop-watcher g l = record {
  last : last_epoch 0 l.publisher.list ≤ l.board.epoch;
  detect : l.publisher.detect ≡ AtBlock;
  board : l.board ≡ l.fn.board;
}
