use Rattle.gl_parts.proofs.Actions.{intentions_enter, plain_steps_agree, requests_obey}
use Rattle.gl_parts.proofs.Plain.{part_steps_act, plain_part_steps}
use Rattle.gl_parts.proofs.laws.part_steps.Goals as goal

pub returns : goal.returns
returns c = record { action = part_steps_act; plain = plain_part_steps; at_once = intentions_enter; obeys = requests_obey; agrees = plain_steps_agree }
