use Rattle.std.proofs.Common.{refl}
use Rattle.test_threads.proofs.stage.try_on.Goals as goal

pub enact_under_name-requires-clause-book : goal.enact_under_name-requires-clause-book
enact_under_name-requires-clause-book g c κs within = (refl, refl)
