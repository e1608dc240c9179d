use Rattle.gl_interpreter.proofs.Words.{Some}
use Rattle.gl_interpreter.proofs.Registers.{ids-updated, names-updated, on_ok}
use Rattle.gl_interpreter.proofs.register.Register.add.Goals as goal

pub returns-clause-ids : goal.returns-clause-ids
returns-clause-ids g c =
    ids-updated c.args.self.now.ids c.insert.new.self c.copy_of.result c.args.name.now.items c.copy_of.ensures (Some c.args.id)
    (on_ok _ (c.insert.ensures.succeeds c.requires.room.0) c.insert.ensures.updates)

pub returns-clause-names : goal.returns-clause-names
returns-clause-names g c =
    names-updated _ c.args.self.now.names c.insert-2.new.self c.args.id (Some c.copy_of-2.result) c.args.name.now.items c.copy_of-2.ensures
    (on_ok _ (c.insert-2.ensures.succeeds c.requires.room.1) c.insert-2.ensures.updates)
