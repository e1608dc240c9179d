use Rattle.gl_window.proofs.Lists.{epoch_after}
use Rattle.gl_window.proofs.tests.watch.Goals as goal

pub returns-clause-last : goal.returns-clause-last
returns-clause-last c = epoch_after c.args.publisher.now.list c.watch.new.self.list c.args.board c.watch.ensures.list c.requires.rises
