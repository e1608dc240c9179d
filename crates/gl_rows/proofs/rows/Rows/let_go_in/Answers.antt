use Rattle.std.specs.Prelude.{length}
use Rattle.std.proofs.Common.{ap, refl, subst, sym, ◌∙◌}
use Rattle.gl_modes.proofs.Words.{clash, number_same, same_number}
use Rattle.gl_catalog.specs.Manager.{state_of}
use Rattle.gl_rows.specs.Leaving.{LetsGoIn}
use Rattle.gl_rows.specs.Releasing.{LetsEachGo}
use Rattle.gl_rows.specs.Rows.{RowsView, has_any, rows_at}
use Rattle.gl_rows.specs.Sound.{view_of, viewed}
use Rattle.gl_rows.proofs.LeftRows.{in_slot, no_rows, some_rows, still_marked, unmarked}
use Rattle.gl_rows.proofs.rows.Rows.let_go_in.Goals as goal

pub returns-then-is_empty : goal.returns-then-is_empty
returns-then-is_empty c =
    let names = c.let_each_go.new.names.entries in
    let after = viewed c.self.inside.files.keys names c.keep_named.new.sets.items c.remove.new.self in
    let goes = subst (λ rows. LetsEachGo (state_of c.args.manager.now) c.self.inside.names.entries rows (state_of c.let_each_go.new.manager) names)
    c.rows_in.ensures.rows c.let_each_go.ensures.goes in
    let none = no_rows (rows_at after c.args.slot) (ap length (sym c.rows_in-2.ensures.rows) ∙ same_number _ 0 (sym c.is_empty.ensures ∙ c.if-is_empty.true)) in
    subst (λ (v : RowsView). LetsGoIn c.args.manager.now v c.args.slot c.let_each_go.new.manager after) c.self.view_is
    (in_slot c.args.manager.now c.let_each_go.new.manager (view_of c.self.inside) after c.args.slot goes c.let_each_go.ensures.account refl
    c.keep_named.ensures.rows (unmarked c.self.inside.left c.remove.new.self c.args.slot (has_any after) none c.remove.ensures.left))

pub returns-else-is_empty : goal.returns-else-is_empty
returns-else-is_empty c =
    let names = c.let_each_go.new.names.entries in
    let after = viewed c.self.inside.files.keys names c.keep_named.new.sets.items c.self.inside.left in
    let goes = subst (λ rows. LetsEachGo (state_of c.args.manager.now) c.self.inside.names.entries rows (state_of c.let_each_go.new.manager) names)
    c.rows_in.ensures.rows c.let_each_go.ensures.goes in
    let some = some_rows (rows_at after c.args.slot)
    (λ e. clash (c.is_empty.ensures ∙ number_same _ 0 (ap length c.rows_in-2.ensures.rows ∙ e)) c.if-is_empty.false) in
    subst (λ (v : RowsView). LetsGoIn c.args.manager.now v c.args.slot c.let_each_go.new.manager after) c.self.view_is
    (in_slot c.args.manager.now c.let_each_go.new.manager (view_of c.self.inside) after c.args.slot goes c.let_each_go.ensures.account refl
    c.keep_named.ensures.rows (still_marked c.self.inside.left c.args.slot (has_any after) some))
