use Rattle.std.proofs.Common.{ap, ◌+◌, ◌∙◌, ℕ}
use Rattle.gl_catalog.specs.Manager.{state_of}
use Rattle.gl_catalog.specs.Replies.{said_in}
use Rattle.gl_catalog.proofs.RunsOn.{leaves_others, run_next, run_whole}
use Rattle.gl_catalog.proofs.run.run_commands.Goals as goal

pub loop-command-preserved : goal.loop-command-preserved
loop-command-preserved c = record {
  ran = run_next (state_of c.args.manager.now) (state_of c.loop-command.manager)
      (state_of c.apply.new.self) c.args.commands.now c.loop-command.command-index _ c.loop-command.replies.items c.push_reserved.new.self.items c.apply.result
      c.loop-command-test.true c.loop-command.invariant.ran c.apply.ensures.step c.push_reserved.ensures.items;
  replied = c.push_reserved.ensures.len ∙ ap (λ (k : ℕ). k + 1) c.loop-command.invariant.replied;
  room = c.push_reserved.ensures.capacity ∙ c.loop-command.invariant.room;
}

pub returns-clause-run : goal.returns-clause-run
returns-clause-run c =
    run_whole (state_of c.args.manager.now) (state_of c.loop-command.manager) c.args.commands.now c.loop-command.command-index
    (said_in c.loop-command.replies.items) c.loop-command-test.false c.loop-command.invariant.ran

pub returns-clause-others : goal.returns-clause-others
returns-clause-others c =
    leaves_others (state_of c.args.manager.now) (state_of c.loop-command.manager) c.args.commands.now
    (said_in c.loop-command.replies.items) c.law.ensures.lawful (returns-clause-run c)
