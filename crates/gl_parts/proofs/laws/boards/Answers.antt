use Rattle.gl_parts.proofs.Boards.{boards_join}
use Rattle.gl_parts.proofs.laws.boards.Goals as goal

pub returns : goal.returns
returns c = boards_join
