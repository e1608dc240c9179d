use Rattle.gl_model.proofs.law.Settle.{condemning_frees, one_is_victim}
use Rattle.gl_model.proofs.laws.one_is_victim.Goals as goal

pub returns : goal.returns
returns c = record { condemning = condemning_frees; one = one_is_victim }
