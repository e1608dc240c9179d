use Rattle.std.proofs.Common.{refl}
use Rattle.test_allocations.proofs.shares.share_table.Goals as goal

pub share_under_name-requires-clause-book : goal.share_under_name-requires-clause-book
share_under_name-requires-clause-book g c = (refl, refl)
