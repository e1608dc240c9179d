use Rattle.gl_parts.proofs.NewIndexes.{indexes_need_keys, indexes_pass_more, others_pass_the_same}
use Rattle.gl_parts.proofs.laws.new_indexes.Goals as goal

pub returns : goal.returns
returns c = record { keys = indexes_need_keys; more = indexes_pass_more; others = others_pass_the_same }
