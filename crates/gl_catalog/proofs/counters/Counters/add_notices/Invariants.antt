use Rattle.std.specs.Prelude.{◌≡◌, take}
use Rattle.gl_catalog.specs.Counters.{with_notices}
use Rattle.gl_catalog.proofs.counters.Counters.add_notices.Given as goal

abbrev pub invariant-loop-notice : goal.invariant-loop-notice
invariant-loop-notice l = l.self ≡ with_notices (take l.notice-index l.told) l.fn.self
