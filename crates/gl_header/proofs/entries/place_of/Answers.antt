use Rattle.gl_header.proofs.Queues.{place-cases}
use Rattle.gl_header.proofs.entries.place_of.Goals as goal

pub returns : goal.returns
returns c = place-cases c.args.entries.now c.args.slot _ c.first_of.ensures
