use Rattle.gl_catalog.proofs.ModesRise.{steps_keep_modes}
use Rattle.gl_catalog.proofs.Savepoints.{modes_only_rise}
use Rattle.gl_catalog.proofs.laws.modes_only_rise.Goals as goal

pub returns : goal.returns
returns c = record { steps = steps_keep_modes; runs = modes_only_rise }
