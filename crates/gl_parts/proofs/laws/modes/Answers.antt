use Rattle.gl_parts.proofs.Grants.{grants_of_one_part, modes_by}
use Rattle.gl_parts.proofs.laws.modes.Goals as goal

pub returns : goal.returns
returns c = record { whole = modes_by; one_part = grants_of_one_part }
