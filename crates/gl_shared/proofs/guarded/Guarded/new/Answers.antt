use Rattle.std.proofs.Common.{◌≤◌, arith, le_refl, subst, sym, List}
use Rattle.gl_waits.specs.declared.board.Board.{Board}
use Rattle.gl_window.specs.Boards.{last_epoch}
use Rattle.gl_shared.proofs.guarded.Guarded.new.Goals as goal

pub invariant_of-result : goal.invariant_of-result
invariant_of-result g c =
    let n = c.args.manager.accepted in (
      c.requires.whole,
      sym c.requires.book,
      (let none = c.requires.book in let is = c.requires.opening.0 in omega (arith, none, is)),
      c.requires.opening.1,
      subst (λ (l : List Board). last_epoch 0 l ≤ n) (sym c.requires.told) (le_refl n),
      (λ e. absurd (cc e)),
    )
