use Rattle.gl_table.proofs.Words.{IsPartitionPoint-from_clause, nat_lt, rules}
use Rattle.gl_model.proofs.telling.Lists.{place_found, place_parts}
use Rattle.gl_table.proofs.told.place_of.Goals as goal

-- the point at which the binary search parts the notices
pub returns : goal.returns
returns c =
    place_found c.args.told.now c.args.slot c.partition_point.result c.partition_point.ensures.bound
    (IsPartitionPoint-from_clause (λ x. nat_lt x.0.slot c.args.slot) c.args.told.now c.partition_point.result c.partition_point.ensures.partitioned
    (place_parts c.args.told.now c.args.slot c.requires) (λ a r f' called. search rules))
