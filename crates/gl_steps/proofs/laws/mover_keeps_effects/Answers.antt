use Rattle.gl_steps.proofs.MoverEffects.{move_keeps_mover, rekey_keeps_mover}
use Rattle.gl_steps.proofs.EscalateEffects.{escalate_lowers_none}
use Rattle.gl_steps.proofs.laws.mover_keeps_effects.Goals as goal

pub returns : goal.returns
returns c = record { rekeyed = rekey_keeps_mover; moved = move_keeps_mover; escalated = escalate_lowers_none }
