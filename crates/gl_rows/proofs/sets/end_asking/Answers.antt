use Rattle.std.specs.Prelude.{◌&&◌, [], get_or, is_some, not, slice_set}
use Rattle.std.specs.Map.{lookup}
use Rattle.std.proofs.Common.{ap, sym, ◌∙◌}
use Rattle.gl_rows.specs.Rows.{is_in_any, same_row}
use Rattle.gl_rows.specs.Sound.{rows_of}
use Rattle.gl_rows.proofs.LeftRows.{none_pass}
use Rattle.gl_rows.proofs.sets.end_asking.Goals as goal

pub returns-then-none-clause-rows : goal.returns-then-none-clause-rows
returns-then-none-clause-rows c =
    let sets = rows_of c.args.sets.now.items in
    c.clear.ensures.rows ∙ ap (slice_set sets c.args.slot) (sym (none_pass
    (λ row. is_some (lookup (same_row row) c.args.names.now.entries) && not (is_in_any (slice_set sets c.args.slot []) row)) (get_or sets c.args.slot [])
    (λ row e. ap (λ o. is_some o && not (is_in_any (slice_set sets c.args.slot []) row)) (c.requires.none c.if-none.true row e))))
