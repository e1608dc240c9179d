use Rattle.std.specs.Prelude.{◌≡◌, None, true}
use Rattle.std.proofs.Common.{refl, subst}
use Rattle.gl_catalog.specs.Manager.{state_of}
use Rattle.gl_rows.specs.Releasing.{LetsEachGo, LetsLeftGo, is_among, no_end}
use Rattle.gl_rows.specs.Rows.{RowsView, has_asked, name_of, rows_at}
use Rattle.gl_rows.specs.Sound.{view_of, viewed}
use Rattle.gl_rows.specs.declared.row.Row.{Row}
use Rattle.gl_rows.proofs.LeftRows.{asked_go, still_gone}
use Rattle.gl_rows.proofs.RowNames.{node_in}
use Rattle.gl_rows.proofs.rows.Rows.let_go_asked.Goals as goal

-- the rows after those of the slot were let go
abbrev mid : goal.After-let_left_go → RowsView
mid c = viewed c.self.inside.files.keys c.let_each_go-all.new.names.entries c.self.inside.asked.items c.self.inside.left

own : (c : goal.After-let_left_go) → LetsEachGo (state_of c.args.manager.now) (view_of c.self.inside).names (rows_at (view_of c.self.inside) c.args.slot)
    (state_of c.let_each_go-all.new.manager) c.let_each_go-all.new.names.entries
own c = subst (λ rows. LetsEachGo (state_of c.args.manager.now) c.self.inside.names.entries rows (state_of c.let_each_go-all.new.manager)
    c.let_each_go-all.new.names.entries) c.rows_in.ensures.rows c.let_each_go-all.ensures.goes

pub returns-clause-goes : goal.returns-clause-goes
returns-clause-goes c =
    subst (λ (v : RowsView). LetsLeftGo c.args.manager.now v (rows_at v c.args.slot) no_end c.let_left_go.new.manager c.let_left_go.new.self) c.self.view_is
    (asked_go c.args.manager.now c.let_each_go-all.new.manager c.let_left_go.new.manager (view_of c.self.inside) (mid c) c.let_left_go.new.self c.args.slot
    c.law.ensures.lawful c.let_each_go-all.ensures.account refl refl refl (own c) c.let_left_go.ensures)

pub returns-clause-gone : goal.returns-clause-gone
returns-clause-gone c = λ all.
    subst (λ (v : RowsView). (q : Row) → has_asked v c.args.slot q ≡ true → name_of c.let_left_go.new.self q ≡ None) c.self.view_is
    (still_gone c.args.manager.now c.let_each_go-all.new.manager c.let_left_go.new.manager (view_of c.self.inside) (mid c) c.let_left_go.new.self c.args.slot
    c.law.ensures.lawful c.let_each_go-all.ensures.account refl refl refl (own c) c.let_left_go.ensures
    (subst (λ rows. (q : Row) → is_among rows q ≡ true → node_in c.let_each_go-all.new.names.entries q ≡ None) c.rows_in.ensures.rows
    (c.let_each_go-all.ensures.gone all)))
