use Rattle.gl_interpreter.proofs.Words.{◌∙◌, ap, is_some, script_of, sym, true≢false}
use Rattle.gl_interpreter.specs.SoFar.{Answered, CarriesOut}
use Rattle.gl_interpreter.proofs.Openings.{goes_on, nothing}
use Rattle.gl_interpreter.proofs.interpreter.Interpreter.answer.Goals as goal

pub returns-then-is_none : goal.returns-then-is_none
unfolding Answered CarriesOut
returns-then-is_none g c ready =
    let old = c.args.self.now in
    let done = c.carry_out.ensures in
    let none = done.2 ∙ nothing old.two c.if-is_none.ensures in
    let prints = goes_on old.two (script_of old.desk) (script_of c.carry_out.new.self.desk) c.args.line.now done.0 ready
    (λ m some. absurd (true≢false (sym (ap is_some some) ∙ c.if-is_none.ensures))) done.1 in
    (done.0, rw none prints, rw none tt, done.3)
