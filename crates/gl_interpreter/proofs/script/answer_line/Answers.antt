use Rattle.gl_interpreter.proofs.Words.{◌∙◌, Prints, stage_of, subst}
use Rattle.gl_interpreter.specs.Held.{Hands}
use Rattle.gl_interpreter.specs.SoFar.{Answered, HasReported}
use Rattle.gl_interpreter.proofs.Reading.{Prints-front}
use Rattle.gl_interpreter.proofs.script.answer_line.Goals as goal

pub returns-clause-answers : goal.returns-clause-answers
unfolding HasReported Answered Hands
returns-clause-answers g c line e ready =
    let done = c.answer.ensures ready in (
      done.0,
      Prints-front (stage_of c.args.tool.now.interpreter) line done.0 _
          (subst (λ l. Prints (stage_of c.args.tool.now.interpreter) l done.0 (stage_of c.answer.new.self)) (c.as_slice.ensures.value ∙ e) done.1),
      done.2,
      done.3,
    )
