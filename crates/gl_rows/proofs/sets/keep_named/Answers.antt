use Rattle.std.specs.Prelude.{filter, is_some}
use Rattle.std.specs.Map.{lookup}
use Rattle.std.proofs.Common.{ap, arith, rules, sym, ◌∙◌}
use Rattle.std.proofs.lemmas.Fn.{filter_same}
use Rattle.indexmap.specs.IndexSet.{IndexSet}
use Rattle.gl_rows.specs.Rows.{same_row}
use Rattle.gl_rows.specs.declared.row.Row.{Row}
use Rattle.gl_rows.proofs.SlotSets.{rows_set, rows_there}
use Rattle.gl_rows.proofs.sets.keep_named.Goals as goal

pub returns-clause-rows : goal.returns-clause-rows
returns-clause-rows c =
    rows_set c.args.sets.now.items c.args.slot c.retain.new.self _
    (filter_same _ (λ row. is_some (lookup (same_row row) c.args.names.now.entries)) _ (λ x b f call. (search rules, search rules)) _ _
    c.retain.ensures.filtered
    ∙ ap (λ (s : IndexSet Row _). filter (λ row. is_some (lookup (same_row row) c.args.names.now.entries)) s.keys) c.index_mut.ensures.value
    ∙ ap (filter (λ row. is_some (lookup (same_row row) c.args.names.now.entries)))
    (sym (rows_there c.args.sets.now.items c.args.slot c.index_mut.result.now (omega arith))))
