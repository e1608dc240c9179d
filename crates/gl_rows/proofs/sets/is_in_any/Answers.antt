use Rattle.std.proofs.Common.{ap, rules, ◌∙◌}
use Rattle.std.specs.List.{list_any}
use Rattle.std.proofs.lemmas.Iterator.{YieldsList-from_slice}
use Rattle.std.proofs.lemmas.Iterator.Search.{any_from_yields_List}
use Rattle.gl_rows.specs.Rows.{same_row}
use Rattle.gl_rows.proofs.SlotSets.{in_any}
use Rattle.gl_rows.proofs.sets.is_in_any.Goals as goal

pub returns : goal.returns
returns c =
    any_from_yields_List (λ s. list_any (same_row c.args.row.now) s.keys) _ _ c.any.result c.any.ensures.ran
    (YieldsList-from_slice c.deref.result.now cc) (λ x b q k. search rules)
    ∙ ap (list_any (λ s. list_any (same_row c.args.row.now) s.keys)) c.deref.ensures.value
    ∙ in_any c.args.sets.now.items c.args.row.now
