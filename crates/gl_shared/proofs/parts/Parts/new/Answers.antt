use Rattle.std.proofs.Common.{rules, ◌∷◌, [], ◌∙◌, ap, subst, sym}
use Rattle.gl_waits.specs.declared.board.Board.{Board}
use Rattle.gl_model.specs.declared.answers.Detect.{Detect}
use Rattle.gl_window.specs.Boards.{Fine}
use Rattle.gl_shared.proofs.parts.Parts.new.Goals as goal

pub open-requires : goal.open-requires
open-requires g c = subst (λ (d : Detect). Fine d c.board_now-board.result) (sym c.detect.ensures) c.board_now-board.ensures.fine

pub invariant_of-result : goal.invariant_of-result
invariant_of-result g c = record {
  cut = search rules;
  head_is = search rules;
  one = (
    c.in-Ok.ensures.1 ∙ ap (λ (b : Board). b ∷ []) c.board_now-board.ensures.board,
    c.in-Ok.ensures.2 ∙ c.detect.ensures,
    subst (λ (b : Board). Fine c.args.manager.table.detect b) c.board_now-board.ensures.board c.board_now-board.ensures.fine,
  );
  rest = search rules;
  tie = search rules;
  looking = search rules;
}
