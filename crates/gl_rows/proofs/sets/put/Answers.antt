use Rattle.std.proofs.Common.{ap, ◌∙◌, arith}
use Rattle.std.proofs.lemmas.Result.{IfOk-at_ok}
use Rattle.std.specs.List.{list_any}
use Rattle.std.specs.Prelude.{◌&&◌, ◌==◌, cond, true}
use Rattle.indexmap.specs.IndexSet.{IndexSet}
use Rattle.gl_rows.specs.Rows.{same_row}
use Rattle.gl_rows.specs.Sound.{is_in}
use Rattle.gl_rows.specs.declared.row.Row.{Row}
use Rattle.gl_rows.proofs.SlotSets.{cond-true, is_in_updated}
use Rattle.gl_rows.proofs.sets.put.Goals as goal

pub returns-clause-has : goal.returns-clause-has
returns-clause-has c =
    λ u q. is_in_updated c.args.sets.now.items c.args.slot c.insert.new.self (omega arith) c.index_mut.result.now c.args.row true
    (λ q. (IfOk-at_ok _ c.unwrap.ensures c.insert.ensures.updates).0 q
    ∙ ap (λ (x : IndexSet Row _). cond (same_row c.args.row q) true (list_any (same_row q) x.keys)) c.index_mut.ensures.value) u q
    ∙ cond-true (is_in c.args.sets.now.items u q) ((u == c.args.slot) && same_row c.args.row q)
