use Rattle.std.specs.Prelude.{◌≡◌, ◌+◌, true, length, vec_capacity}
use Rattle.std.specs.List.{list_all}
use Rattle.gl_model.specs.Lawful.{IsLawful}
use Rattle.gl_catalog.specs.Manager.{state_of}
use Rattle.gl_shared.specs.Batches.{Serves, accepted_in, goes_on}
use Rattle.gl_wakes.specs.Wakes.{HasEnded}
use Rattle.gl_shared.proofs.batch.serve_all.Given as goal

-- the commands so far were served, and the list did not stop; each has its answer, there is room for the others', and the ended waits are known
abbrev pub invariant-loop-command : goal.invariant-loop-command
invariant-loop-command g l = record {
  ran : Serves l.fn.guarded l.commands l.answers.items l.guarded;
  answered : length l.answers.items ≡ l.command-index;
  room : vec_capacity l.answers ≡ length l.commands;
  on : list_all goes_on l.answers.items ≡ true;
  share : l.share ≡ l.fn.share + accepted_in l.commands l.answers.items;
  book : l.guarded.book ≡ l.fn.guarded.book + accepted_in l.commands l.answers.items;
  list : l.guarded.list ≡ l.fn.guarded.list;
  lawful : IsLawful (state_of l.fn.guarded.manager) → IsLawful (state_of l.guarded.manager);
  ended : HasEnded (state_of l.fn.guarded.manager) (state_of l.guarded.manager) l.ended;
}
