use Rattle.std.proofs.Common.{◌∙◌}
use Rattle.gl_shared.proofs.guarded.Guarded.serve.Goals as goal

pub returns-clause-calm : goal.returns-clause-calm
returns-clause-calm g c = λ at. c.law.ensures.manager.no_cycle (c.law.ensures.detect ∙ at)
