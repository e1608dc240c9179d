use Rattle.gl_model.proofs.law.Effects.{cut_set_law, cut_set_on}
use Rattle.gl_model.proofs.laws.cut_sets.Goals as goal

pub returns : goal.returns
returns c = record { law = cut_set_on; lawful = cut_set_law }
