use Rattle.gl_parts.proofs.Moves.{moves_pass_the_node, moves_pass_the_same}
use Rattle.gl_parts.proofs.MovesAct.{moves_act, moves_agree}
use Rattle.gl_parts.proofs.laws.moves.Goals as goal

pub returns : goal.returns
returns c = record { node = moves_pass_the_node; same = moves_pass_the_same; agree = moves_agree; action = moves_act }
