use Rattle.std.specs.Prelude.{◌&&◌, is_some, not}
use Rattle.std.specs.Map.{lookup}
use Rattle.std.proofs.Common.{rules}
use Rattle.std.proofs.lemmas.Fn.{filter_same}
use Rattle.gl_rows.specs.Rows.{is_in_any, same_row}
use Rattle.gl_rows.specs.Sound.{rows_of}
use Rattle.gl_rows.proofs.sets.retain_alone.Goals as goal

pub returns : goal.returns
returns c =
    filter_same _ (λ row. is_some (lookup (same_row row) c.args.names.now.entries) && not (is_in_any (rows_of c.args.others.now.items) row)) _
    (λ x b f call. (search rules, search rules)) _ _ c.retain.ensures.filtered
