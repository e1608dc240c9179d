use Rattle.std.proofs.Common.{rules, ◌≡◌, ◌++◌, ◌∷◌, [], ◌∙◌, ap, sym, None, Some}
use Rattle.std.specs.Arc.{arc_value}
use Rattle.std.specs.List.{last_or}
use Rattle.gl_waits.specs.declared.board.Board.{Board}
use Rattle.gl_shared.proofs.Published.{last-more}
use Rattle.gl_shared.proofs.rule.ShownAbsorbNext.absorb_first.Goals as goal

pub invariant_of-drop : goal.invariant_of-drop
invariant_of-drop c =
    let before = c.args.operation.now.line.list in
    let list : c.in-Some.line.list ≡ before ++ arc_value c.in_ok-last.last ∷ [] = search rules in
    let same : arc_value c.in_ok-last.last ≡ arc_value c.in_ok-board.board = search rules in
    record { ends = λ _. sym (ap (last_or None) list ∙ last-more None before (arc_value c.in_ok-last.last) ∙ ap (λ (b : Board). Some b) same) }
