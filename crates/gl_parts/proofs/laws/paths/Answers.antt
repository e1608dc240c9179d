use Rattle.gl_parts.proofs.Adopting.{adopts_pass_no_more}
use Rattle.gl_parts.proofs.Paths.{listed_lack_nothing, main_steps_keep_paths, marks_keep_paths, part_steps_keep_paths, paths_may_request, row_paths_may_request}
use Rattle.gl_parts.proofs.laws.paths.Goals as goal

pub returns : goal.returns
returns c = record {
  nodes = paths_may_request;
  rows = row_paths_may_request;
  listed = listed_lack_nothing;
  marks = marks_keep_paths;
  main_steps = main_steps_keep_paths;
  part_steps = part_steps_keep_paths;
  adopts = adopts_pass_no_more;
}
