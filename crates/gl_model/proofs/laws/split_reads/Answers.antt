use Rattle.gl_model.proofs.splits.Laws.{merges_keep_what_others_read, merges_need_no_reader, splits_keep_what_others_read, splits_need_no_reader}
use Rattle.gl_model.proofs.laws.split_reads.Goals as goal

pub returns : goal.returns
returns c = record {
  split = splits_keep_what_others_read;
  merge = merges_keep_what_others_read;
  split_reader = splits_need_no_reader;
  merge_reader = merges_need_no_reader;
}
