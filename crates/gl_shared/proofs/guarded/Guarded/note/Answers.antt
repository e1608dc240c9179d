use Rattle.gl_shared.proofs.Tellings.{told_either}
use Rattle.gl_shared.proofs.guarded.Guarded.note.Goals as goal

pub returns-clause-told : goal.returns-clause-told
returns-clause-told g c = told_either _ _ c.tell.result c.tell.new.self.list c.tell.ensures.told
