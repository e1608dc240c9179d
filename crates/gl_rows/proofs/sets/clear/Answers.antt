use Rattle.gl_rows.proofs.SlotSets.{none_of, rows_set}
use Rattle.gl_rows.proofs.sets.clear.Goals as goal

pub returns-then-len-capacity-clause-rows : goal.returns-then-len-capacity-clause-rows
returns-then-len-capacity-clause-rows c = rows_set c.args.sets.now.items c.args.slot c.truncate.new.self _ c.truncate.ensures.keys

pub returns-else-len-capacity-clause-rows : goal.returns-else-len-capacity-clause-rows
returns-else-len-capacity-clause-rows c = rows_set c.args.sets.now.items c.args.slot c.clear.new.self _ c.clear.ensures.empty

pub returns-then-is_empty-clause-rows : goal.returns-then-is_empty-clause-rows
returns-then-is_empty-clause-rows c =
    rows_set c.args.sets.now.items c.args.slot c.index_mut-set.result.now _ (none_of _ (c.is_empty.ensures.0 c.if-is_empty.true))
