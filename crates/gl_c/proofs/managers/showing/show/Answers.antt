use Rattle.std.proofs.Common.{◌++◌, ◌∷◌, [], ◌∙◌, ap, subst, sym}
use Rattle.gl_waits.specs.declared.board.Board.{Board}
use Rattle.gl_model.specs.declared.answers.Detect.{Detect}
use Rattle.gl_table.specs.Table.{board_of}
use Rattle.gl_catalog.specs.Manager.{state_of}
use Rattle.gl_window.specs.Boards.{Fine}
use Rattle.gl_c.proofs.serving.Showing.{either_board}
use Rattle.gl_c.proofs.managers.showing.show.Goals as goal

pub publish-requires-clause-fine : goal.publish-requires-clause-fine
publish-requires-clause-fine c = subst (λ (d : Detect). Fine d c.board_now-board.result) (sym c.requires.detect) c.board_now-board.ensures.fine

pub returns-then-publish-clause-shown : goal.returns-then-publish-clause-shown
returns-then-publish-clause-shown c = (
  c.publish.ensures.shown c.if-publish.true ∙ ap (λ (b : Board). c.args.publisher.now.list ++ b ∷ []) c.board_now-board.ensures.board,
  c.parties_of.ensures,
)

pub returns-then-publish-clause-list : goal.returns-then-publish-clause-list
returns-then-publish-clause-list c = either_board c.args.publisher.now.list c.publish.new.self.list c.board_now-board.result
    (board_of (state_of c.args.manager.now)) c.publish.ensures.list c.board_now-board.ensures.board

pub returns-else-publish-clause-list : goal.returns-else-publish-clause-list
returns-else-publish-clause-list c = either_board c.args.publisher.now.list c.publish.new.self.list c.board_now-board.result
    (board_of (state_of c.args.manager.now)) c.publish.ensures.list c.board_now-board.ensures.board
