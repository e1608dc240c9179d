use Rattle.std.specs.Prelude.{◌==◌, length}
use Rattle.std.proofs.Common.{ap, refl, subst, sym, ◌∙◌}
use Rattle.gl_modes.proofs.Words.{clash, number_same, same_number}
use Rattle.gl_rows.specs.Releasing.{LetsLeftGo, no_end}
use Rattle.gl_rows.specs.Rows.{RowsView, has_any, rows_at}
use Rattle.gl_rows.specs.Sound.{view_of, viewed}
use Rattle.gl_rows.proofs.LeftRows.{at_end, marked, no_rows, not_marked, nothing_ends, some_rows}
use Rattle.gl_rows.proofs.SlotSets.{none_of}
use Rattle.gl_rows.proofs.rows.Rows.let_go_at_end.Goals as goal

pub returns-then-is_empty-2 : goal.returns-then-is_empty-2
returns-then-is_empty-2 c =
    subst (λ (v : RowsView). LetsLeftGo c.args.manager.now v (rows_at v c.args.slot) (λ w. w == c.args.slot) c.args.manager.now v) c.self.view_is
    (nothing_ends c.args.manager.now (view_of c.self.inside) c.args.slot
    (sym c.rows_in.ensures.rows ∙ none_of c.rows_in.result.now (same_number _ 0 (sym c.is_empty.ensures ∙ c.if-is_empty.true)))
    (c.is_empty-then-is_empty.ensures.0 c.if-is_empty-2.true))

pub returns-then-is_empty-3 : goal.returns-then-is_empty-3
returns-then-is_empty-3 c =
    let after = viewed c.self-2.inside.files.keys c.self-2.inside.names.entries c.end_asking.new.sets.items c.remove.new.self in
    let none = no_rows (rows_at after c.args.slot)
    (ap length (sym c.rows_in-2.ensures.rows) ∙ same_number _ 0 (sym c.is_empty-2.ensures ∙ c.if-is_empty-3.true)) in
    let went = subst
    (λ (v : RowsView). LetsLeftGo c.args.manager.now c.args.self.now (rows_at c.args.self.now c.args.slot) no_end c.let_go_asked-all.new.manager v)
    (sym c.self-2.view_is) c.let_go_asked-all.ensures.goes in
    at_end c.args.manager.now c.let_go_asked-all.new.manager c.args.self.now (view_of c.self-2.inside) after c.args.slot went refl refl
    c.end_asking.ensures.rows (not_marked c.self-2.inside.left c.remove.new.self c.args.slot (has_any after c.args.slot) none c.remove.ensures.left)

pub returns-else-is_empty-3 : goal.returns-else-is_empty-3
returns-else-is_empty-3 c =
    let after = viewed c.self-2.inside.files.keys c.self-2.inside.names.entries c.end_asking.new.sets.items c.insert.new.self in
    let some = some_rows (rows_at after c.args.slot)
    (λ e. clash (c.is_empty-2.ensures ∙ number_same _ 0 (ap length c.rows_in-2.ensures.rows ∙ e)) c.if-is_empty-3.false) in
    let went = subst
    (λ (v : RowsView). LetsLeftGo c.args.manager.now c.args.self.now (rows_at c.args.self.now c.args.slot) no_end c.let_go_asked-all.new.manager v)
    (sym c.self-2.view_is) c.let_go_asked-all.ensures.goes in
    at_end c.args.manager.now c.let_go_asked-all.new.manager c.args.self.now (view_of c.self-2.inside) after c.args.slot went refl refl
    c.end_asking.ensures.rows (marked c.self-2.inside.left c.insert.new.self c.args.slot (has_any after c.args.slot) some c.insert.ensures)
