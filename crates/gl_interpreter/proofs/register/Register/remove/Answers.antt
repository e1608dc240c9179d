use Rattle.gl_interpreter.proofs.Words.{[], arith, None, refl}
use Rattle.gl_interpreter.proofs.Registers.{ids-updated, names-updated}
use Rattle.gl_interpreter.proofs.register.Register.remove.Goals as goal

pub returns-clause-ids : goal.returns-clause-ids
returns-clause-ids g c = ids-updated c.args.self.now.ids c.swap_remove.new.self c.args.name.now c.args.name.now.items refl None c.swap_remove.ensures.updates

pub returns-clause-names : goal.returns-clause-names
returns-clause-names g c = names-updated _ c.args.self.now.names c.swap_remove-2.new.self c.args.id None [] refl c.swap_remove-2.ensures.updates

pub returns-clause-room : goal.returns-clause-room
returns-clause-room g c h = (omega (arith, h.0, c.swap_remove.ensures.room.0), omega (arith, h.1, c.swap_remove-2.ensures.room.0))
