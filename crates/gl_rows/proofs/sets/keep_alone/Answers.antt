use Rattle.std.specs.Prelude.{◌&&◌, filter, is_some, not, slice_set}
use Rattle.std.specs.Map.{lookup}
use Rattle.std.proofs.Common.{ap, arith, rules, ◌∙◌}
use Rattle.indexmap.specs.IndexSet.{IndexSet}
use Rattle.gl_rows.specs.Rows.{is_in_any, same_row}
use Rattle.gl_rows.specs.Sound.{rows_of}
use Rattle.gl_rows.specs.declared.row.Row.{Row}
use Rattle.gl_rows.proofs.SlotSets.{kept_alone}
use Rattle.gl_rows.proofs.sets.keep_alone.Goals as goal

pub returns-clause-rows : goal.returns-clause-rows
returns-clause-rows c =
    let others = rows_of (slice_set c.args.sets.now.items c.args.slot c.replace-set.new.dest) in
    kept_alone c.args.sets.now.items c.args.slot c.index_mut.result.now c.replace-set.new.dest c.retain_alone.new.set
    (λ sets row. is_some (lookup (same_row row) c.args.names.now.entries) && not (is_in_any sets row)) (omega arith) (search rules)
    (c.retain_alone.ensures
    ∙ ap (λ (s : IndexSet Row _). filter (λ row. is_some (lookup (same_row row) c.args.names.now.entries) && not (is_in_any others row)) s.keys)
    (c.replace-set.ensures.value ∙ c.index_mut.ensures.value))
