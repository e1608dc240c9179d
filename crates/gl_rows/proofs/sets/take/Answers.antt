use Rattle.std.proofs.Common.{ap, ◌∙◌, arith}
use Rattle.std.specs.List.{list_any}
use Rattle.std.specs.Prelude.{◌&&◌, ◌==◌, cond, false}
use Rattle.indexmap.specs.IndexSet.{IndexSet}
use Rattle.gl_rows.specs.Rows.{same_row}
use Rattle.gl_rows.specs.Sound.{is_in}
use Rattle.gl_rows.specs.declared.row.Row.{Row}
use Rattle.gl_rows.proofs.SlotSets.{cond-false, is_in_updated}
use Rattle.gl_rows.proofs.sets.take.Goals as goal

pub returns-clause-has : goal.returns-clause-has
returns-clause-has c =
    λ u q. is_in_updated c.args.sets.now.items c.args.slot c.swap_remove.new.self (omega arith) c.index_mut.result.now c.args.row false
    (λ q. c.swap_remove.ensures.updates.0 q
    ∙ ap (λ (x : IndexSet Row _). cond (same_row c.args.row q) false (list_any (same_row q) x.keys)) c.index_mut.ensures.value) u q
    ∙ cond-false (is_in c.args.sets.now.items u q) ((u == c.args.slot) && same_row c.args.row q)
