use Rattle.gl_parts.proofs.Paths.{clears_keep_progress, progress_is_visited}
use Rattle.gl_parts.proofs.laws.in_progress.Goals as goal

pub returns : goal.returns
returns c = record { visited = progress_is_visited; clears = clears_keep_progress }
