use Rattle.gl_model.proofs.law.Lock.{settling_frees}
use Rattle.gl_model.proofs.law.Settle.{settling_ends}
use Rattle.gl_model.proofs.laws.settling_ends.Goals as goal

pub returns : goal.returns
returns c = record { ends = settling_ends; frees = settling_frees }
