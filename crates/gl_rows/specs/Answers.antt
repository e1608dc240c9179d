-- The answers to calls about rows, by their outcomes.
use Rattle.std.specs.Prelude.{Result, Ok, Err}
use Rattle.gl_steps.specs.declared.command.Answer.TheVariants as answer
use Rattle.gl_rows.specs.declared.answer.RowAnswer.{RowAnswer}
use Rattle.gl_rows.specs.declared.answer.RowAnswer.TheVariants as row_answer
use Rattle.gl_rows.specs.declared.answer.RowLocked.{RowLocked}
use Rattle.gl_rows.specs.declared.answer.RowRefusal.{RowRefusal}
use Rattle.gl_rows.specs.declared.answer.RowRefusal.TheVariants as no

-- the answer to a refused call
abbrev pub refusal_said : RowRefusal → RowAnswer
refusal_said no.NotRows = row_answer.NotRows
refusal_said (no.Refused r) = row_answer.Answered (answer.Refused r)

-- the answer to a row's lock
abbrev pub lock_said : Result RowLocked RowRefusal → RowAnswer
lock_said (Ok x) = row_answer.Locked x
lock_said (Err r) = refusal_said r

-- the answer to any other call about a row
abbrev pub done_said : Result (Unit {0}) RowRefusal → RowAnswer
done_said (Ok u) = row_answer.Answered answer.Done
done_said (Err r) = refusal_said r
