-- Boards of several managers on one.
use Rattle.std.specs.Prelude.{◌≡◌, Bool, true, false, ◌||◌, List}
use Rattle.std.proofs.Common.{refl, sym, ap, ap₂, subst, ◌∙◌}
use Rattle.std.proofs.Math.Path.{fun_ext}
use Rattle.gl_waits.specs.declared.board.Board.{Board}
use Rattle.gl_waits.specs.Boards.{board_edge}
use Rattle.gl_waits.specs.Waits.{IsOnCycle}
use Rattle.gl_parts.specs.Whole.{Part, waits_in}
use Rattle.gl_parts.specs.Promises.{BoardsJoin, ShowsWaits}

or_turned : (a b : Bool) → (a || b) ≡ (b || a)
or_turned true true = refl
or_turned true false = refl
or_turned false true = refl
or_turned false false = refl

same_edges : (b : Board) (ps : List Part) → ShowsWaits b ps → board_edge b ≡ waits_in ps
same_edges b ps shows = fun_ext (λ t. fun_ext (λ u. shows t u))

pub boards_join : BoardsJoin
boards_join = record {
  none = λ b empty. empty;
  one_more = λ b added joined p ps shows is all t u. all t u ∙ or_turned (board_edge b t u) (board_edge added t u) ∙ ap₂ (λ x y. x || y) (is t u) (shows t u);
  left_out = λ b p ps shows nobody t u. shows t u ∙ ap (λ x. x || waits_in ps t u) (sym (nobody t u));
  cycles = λ b ps t shows. (
    subst (λ edge. IsOnCycle edge t) (same_edges b ps shows),
    subst (λ edge. IsOnCycle edge t) (sym (same_edges b ps shows)),
  );
}
