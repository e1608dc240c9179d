use Rattle.gl_model.proofs.law.Effects.{no_conflict_law, no_conflict_on}
use Rattle.gl_model.proofs.laws.no_conflict.Goals as goal

pub returns : goal.returns
returns c = record { law = no_conflict_on; lawful = no_conflict_law }
