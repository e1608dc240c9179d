use Rattle.std.proofs.Common.{rules}
use Rattle.gl_shared.proofs.Steps.{admits, forks, merges}
use Rattle.gl_shared.proofs.shared.watch.Goals as goal

pub reader-requires : goal.reader-requires
reader-requires g c = admits

pub tell-requires : goal.tell-requires
tell-requires g c = forks _ _

pub learn-requires : goal.learn-requires
learn-requires g c = record { own = search rules; rule = merges _ _ _ _ }
