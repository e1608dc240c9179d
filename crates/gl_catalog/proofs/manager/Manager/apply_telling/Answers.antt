use Rattle.gl_catalog.specs.Manager.{state_of}
use Rattle.gl_catalog.proofs.Applied.{keeps_caller}
use Rattle.gl_steps.proofs.IdleSettle.{settles_idle}
use Rattle.gl_catalog.proofs.RunsOn.{step_leaves_others}
use Rattle.gl_catalog.proofs.manager.Manager.apply_telling.Goals as goal

pub returns-clause-caller : goal.returns-clause-caller
returns-clause-caller c = keeps_caller c.args.command (state_of c.args.self.now)
    (state_of c.carry_out.new.self) c.carry_out.result c.carry_out.new.told.items c.law.ensures.lawful c.carry_out.ensures.step

pub returns-clause-others : goal.returns-clause-others
returns-clause-others c = step_leaves_others (state_of c.args.self.now) (state_of c.carry_out.new.self) c.args.command
    (c.carry_out.result, c.carry_out.new.told.items) c.law.ensures.lawful c.carry_out.ensures.step

pub returns-clause-settles : goal.returns-clause-settles
returns-clause-settles c = settles_idle c.args.command (state_of c.args.self.now)
    (state_of c.carry_out.new.self) c.carry_out.result c.carry_out.new.told.items c.law.ensures.lawful c.carry_out.ensures.step
