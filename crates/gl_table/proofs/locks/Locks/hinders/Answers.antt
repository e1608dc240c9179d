use Rattle.gl_table.proofs.Words.{◌∙◌}
use Rattle.gl_table.proofs.inside.Says.{hinders-said}
use Rattle.gl_table.proofs.locks.Locks.hinders.Goals as goal

pub returns : goal.returns
returns c = c.hinders.ensures ∙ hinders-said c.args.self.now c.args.slot c.law.ensures.lawful
