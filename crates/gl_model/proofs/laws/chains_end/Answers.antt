use Rattle.gl_model.proofs.law.Settle.{chain_ends}
use Rattle.gl_model.proofs.laws.chains_end.Goals as goal

pub returns : goal.returns
returns c = chain_ends
