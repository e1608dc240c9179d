use Rattle.gl_table.proofs.Words.{◌∙◌}
use Rattle.gl_table.proofs.inside.Says.{children-said}
use Rattle.gl_table.proofs.locks.Locks.children.Goals as goal

pub returns : goal.returns
returns c = c.children.ensures ∙ children-said c.args.self.now c.args.slot c.args.node
