use Rattle.std.proofs.Common.{refl}
use Rattle.test_threads.proofs.gathers.keep_back.Goals as goal

pub keeps_one_back-requires-clause-book : goal.keeps_one_back-requires-clause-book
keeps_one_back-requires-clause-book g c = (refl, refl)
