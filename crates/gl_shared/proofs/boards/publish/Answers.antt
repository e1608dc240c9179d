use Rattle.std.proofs.Common.{rules, ◌≡◌, ◌++◌, ◌∷◌, [], ◌∙◌, ap, sym, Some, List}
use Rattle.std.specs.Arc.{arc_value}
use Rattle.std.specs.Option.{option_map}
use Rattle.gl_waits.specs.declared.board.Board.{Board}
use Rattle.gl_window.specs.Boards.{Ends}
use Rattle.gl_shared.specs.declared.shown.Shown.{Shown}
use Rattle.gl_shared.specs.declared.shown.Turn.{Turn}
use Rattle.gl_shared.proofs.Published.{last-ends, turned-once}
use Rattle.gl_shared.proofs.boards.publish.Goals as goal

pub returns-then-is_followed-clause-list : goal.returns-then-is_followed-clause-list
returns-then-is_followed-clause-list g c =
    let new = arc_value c.args.board in
    let seen = c.published-shown.result.now in
    let copy : arc_value c.in-Ok-Ok-Ok.copy ≡ new = search rules in
    let board : option_map arc_value c.publish_all-writer.result.desk.shown.value.board ≡ Some new =
    ap (λ (t : Turn). t.board) c.publish_all-writer.ensures.turn ∙ turned-once _ _ _ _ new c.in-Ok-append.ensures.pending c.requires.rest copy in
    let ends : Ends seen.line.list new = last-ends seen.line.list new
    (sym (seen.ends c.if-shown.true) ∙ ap (λ (x : Shown). option_map arc_value x.board) c.published-shown.ensures ∙ board) in
    let same : c.in-Ok.before.list ≡ c.args.writer.desk.shown.value.line.list = search rules in
    ap (λ (x : Shown). x.line.list) (sym c.published-shown.ensures) ∙ c.is_followed.ensures c.if-is_followed.true new ends
    ∙ ap (λ (l : List Board). l ++ new ∷ []) same
