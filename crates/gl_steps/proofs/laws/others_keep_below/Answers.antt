use Rattle.gl_steps.proofs.OthersBelow.{others_keep_below, others_keep_file, others_leave_below}
use Rattle.gl_steps.proofs.laws.others_keep_below.Goals as goal

pub returns : goal.returns
returns c = record { rows = others_leave_below; file = others_keep_file; plain = others_keep_below }
