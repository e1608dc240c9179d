use Rattle.gl_steps.proofs.OthersKeep.{others_keep_effects}
use Rattle.gl_steps.proofs.laws.others_keep_effects.Goals as goal

pub returns : goal.returns
returns c = others_keep_effects
