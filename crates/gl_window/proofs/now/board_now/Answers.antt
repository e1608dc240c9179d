use Rattle.gl_window.proofs.Words.{ap, Board, Fine, subst, sym}
use Rattle.gl_window.proofs.RealBoards.{fine_board}
use Rattle.gl_window.proofs.now.board_now.Goals as goal

pub returns-clause-fine : goal.returns-clause-fine
returns-clause-fine c = subst (λ (b : Board). Fine c.args.manager.now.table.detect b) (sym c.board.ensures) (fine_board c.args.manager.now c.law.ensures)

pub returns-clause-epoch : goal.returns-clause-epoch
returns-clause-epoch c = ap (λ (b : Board). b.epoch) c.board.ensures
