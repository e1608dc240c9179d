use Rattle.gl_table.proofs.Words.{◌∙◌}
use Rattle.gl_table.proofs.inside.Says.{found-said, live-said}
use Rattle.gl_table.proofs.locks.Locks.first_child.Goals as goal

pub first_child-requires : goal.first_child-requires
first_child-requires c = record { live = live-said c.args.self.now c.args.slot }

pub returns : goal.returns
returns c = c.first_child.ensures ∙ found-said c.args.self.now c.args.slot c.args.node
