use Rattle.gl_window.proofs.Lists.{epoch_after}
use Rattle.gl_window.proofs.tests.show.Goals as goal

pub returns-clause-last : goal.returns-clause-last
returns-clause-last g c = epoch_after c.args.publisher.now.list c.publish.new.self.list c.args.board c.publish.ensures.list c.requires.rises
