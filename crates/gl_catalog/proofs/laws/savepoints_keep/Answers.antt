use Rattle.gl_catalog.proofs.Savepoints.{paths_in_order, rollback_keeps, rollback_keeps_modes, rollback_releases, stays_before}
use Rattle.gl_catalog.proofs.laws.savepoints_keep.Goals as goal

pub returns : goal.returns
returns c = record { before = stays_before; keeps = rollback_keeps; modes = rollback_keeps_modes; releases = rollback_releases; paths = paths_in_order }
