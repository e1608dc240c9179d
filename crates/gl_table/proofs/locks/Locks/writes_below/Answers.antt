use Rattle.gl_table.proofs.Words.{◌∙◌}
use Rattle.gl_table.proofs.inside.Says.{live-said, written-said}
use Rattle.gl_table.proofs.locks.Locks.writes_below.Goals as goal

pub writes_below-requires : goal.writes_below-requires
writes_below-requires c = record { live = live-said c.args.self.now c.args.slot }

pub returns : goal.returns
returns c = c.writes_below.ensures ∙ written-said c.args.self.now c.args.slot c.args.node
