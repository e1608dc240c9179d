use Rattle.std.specs.Prelude.{◌≡◌, None, Some, drop, map, true}
use Rattle.std.proofs.Common.{ap, sym, subst, ◌∙◌}
use Rattle.std.specs.Option.{option_map}
use Rattle.gl_catalog.specs.Manager.{state_of}
use Rattle.gl_parts.specs.declared.passing.Mark.{Mark}
use Rattle.gl_parts.specs.Passing.{IsFirst, is_unheld_at}
use Rattle.gl_parts.proofs.Ways.{later_first, next_first, none_first}
use Rattle.gl_parts.proofs.passing.first_unheld.Goals as goal

pub returns-then-is_unheld : goal.returns-then-is_unheld
returns-then-is_unheld g c =
    let is_it = is_unheld_at (option_map (λ m. state_of m.now) c.args.main) (state_of c.args.part.now) c.args.slot c.args.mode c.args.passed.now in
    let test = c.is_unheld.ensures ∙ ap is_it c.names-mark.ensures in
    c.marks.invariant (Some c.names-mark.result)
    (subst (λ (m : Mark). IsFirst (λ mark. is_it mark ≡ true) (map g.M.Marked.names (drop c.marks.mark-index c.args.marks.now)) (Some m))
    (sym c.names-mark.ensures)
    (next_first g.M.Marked.names is_it c.args.marks.now c.marks.mark-index c.mark-item.result c.marks-test.true c.mark-item.is
    (sym test ∙ c.if-is_unheld.true)))

pub marks-preserved : goal.marks-preserved
marks-preserved g c first h =
    let is_it = is_unheld_at (option_map (λ m. state_of m.now) c.args.main) (state_of c.args.part.now) c.args.slot c.args.mode c.args.passed.now in
    let test = c.is_unheld.ensures ∙ ap is_it c.names-mark.ensures in
    c.marks.invariant first
    (later_first g.M.Marked.names is_it c.args.marks.now c.marks.mark-index c.mark-item.result c.marks-test.true c.mark-item.is
    (sym test ∙ c.if-is_unheld.false) first h)

pub returns : goal.returns
returns g c =
    let is_it = is_unheld_at (option_map (λ m. state_of m.now) c.args.main) (state_of c.args.part.now) c.args.slot c.args.mode c.args.passed.now in
    c.marks.invariant None (none_first g.M.Marked.names is_it c.args.marks.now c.marks.mark-index c.marks-test.false)
