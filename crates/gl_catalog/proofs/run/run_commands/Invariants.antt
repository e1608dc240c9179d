use Rattle.std.specs.Prelude.{◌≡◌, length, take, vec_capacity, vec_len}
use Rattle.gl_catalog.specs.Manager.{state_of}
use Rattle.gl_catalog.specs.Replies.{said_in}
use Rattle.gl_steps.specs.Step.{Run}
use Rattle.gl_catalog.proofs.run.run_commands.Given as goal

-- the commands so far ran, each has its reply, and there is room for the others' replies
abbrev pub invariant-loop-command : goal.invariant-loop-command
invariant-loop-command l = record {
  ran : Run (state_of l.fn.manager) (take l.command-index l.commands) (said_in l.replies.items) (state_of l.manager);
  replied : vec_len l.replies ≡ l.command-index;
  room : vec_capacity l.replies ≡ length l.commands;
}
