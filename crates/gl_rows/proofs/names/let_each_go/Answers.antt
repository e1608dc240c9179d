use Rattle.std.specs.Prelude.{◌≡◌, ◌&&◌, None, true}
use Rattle.std.proofs.Common.{subst, sym, ◌∙◌, ap}
use Rattle.std.proofs.lemmas.List.{take_more}
use Rattle.gl_catalog.specs.Manager.{state_of}
use Rattle.gl_rows.specs.Releasing.{LetsEachGo, is_among}
use Rattle.gl_rows.proofs.LeftRows.{gone_more}
use Rattle.gl_rows.proofs.LettingGo.{each_then, one_goes}
use Rattle.gl_rows.proofs.RowNames.{node_in}
use Rattle.gl_rows.proofs.names.let_each_go.Goals as goal

pub loop-row-preserved : goal.loop-row-preserved
loop-row-preserved c =
    let one = one_goes (state_of c.loop-row.manager) (state_of c.let_go.new.manager) c.law.ensures.lawful c.loop-row.names.entries
    c.let_go.new.names.entries _ c.let_go.result c.let_go.ensures.goes in
    let more = sym (take_more c.args.rows.now c.loop-row.row-index _ c.loop-row-test.true) in
    record {
      goes = subst (λ rows. LetsEachGo (state_of c.args.manager.now) c.args.names.now.entries rows (state_of c.let_go.new.manager) c.let_go.new.names.entries)
          more
          (each_then (state_of c.args.manager.now) (state_of c.loop-row.manager) (state_of c.let_go.new.manager) c.law.ensures.lawful c.args.names.now.entries
          c.loop-row.names.entries c.let_go.new.names.entries _ _ c.loop-row.invariant.goes one);
      account = (
        c.let_go.ensures.account.0 ∙ c.loop-row.invariant.account.0,
        c.let_go.ensures.account.1 ∙ c.loop-row.invariant.account.1,
      );
      gone = λ all row. subst (λ rows. is_among rows row ≡ true → node_in c.let_go.new.names.entries row ≡ None) more
          (gone_more (state_of c.loop-row.manager) (state_of c.let_go.new.manager) c.loop-row.names.entries c.let_go.new.names.entries _ _ c.let_go.result _
          one c.let_go.ensures.goes (ap (λ b. c.loop-row.all && b) (sym c.is_ok-gone.ensures.value) ∙ all) c.loop-row.invariant.gone row);
    }
