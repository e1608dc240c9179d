use Rattle.gl_interpreter.proofs.Words.{◌∙◌, ◌≡◌, ap, codes, IsReadyWith, ManagerView, nodes_of, None, none_some, Prints, script_of, Some, stage_with, state_of}
use Rattle.gl_interpreter.proofs.Words.{subst, sym}
use Rattle.gl_interpreter.specs.SoFar.{Answered, CarriesOut}
use Rattle.gl_interpreter.proofs.Openings.{chooses, goes_on}
use Rattle.gl_interpreter.proofs.interpreter.Interpreter.answer_first.Goals.{in_default-via-in-Some+in_default, in_default-via-in_default}
use Rattle.gl_interpreter.proofs.interpreter.Interpreter.answer_first.Goals as goal

pub returns-in-Some-Some : goal.returns-in-Some-Some
unfolding Answered
returns-in-Some-Some g c ready =
    let old = c.args.self.now in
    let some : old.two ≡ Some c.in-Some-Some.manager = sym c.take.ensures.value ∙ c.in-Some-Some.is-0 in
    let prints = chooses c.in-Some-Some.version c.in-Some-Some.manager (script_of old.desk) (script_of c.begin_version.new.self) c.args.line.now
    (subst (λ o. IsReadyWith o (script_of old.desk)) some ready) (sym c.chosen_version.ensures ∙ c.in-Some-Some.is-1)
    c.begin_version.ensures.language c.begin_version.ensures.names (ap state_of c.begin_version.ensures.manager)
    (ap (λ (m : ManagerView). m.table.deadlock) c.begin_version.ensures.manager)
    (ap (λ (m : ManagerView). nodes_of m.table) c.begin_version.ensures.manager) in (
      codes "ok\n",
      rw c.take.ensures.after (subst (λ o. Prints (stage_with o (script_of old.desk)) c.args.line.now (codes "ok\n")
          (stage_with None (script_of c.begin_version.new.self))) (sym some) prints),
      rw c.take.ensures.after tt,
      c.put.ensures,
    )

pub returns-in_default : goal.returns-in_default
unfolding Answered CarriesOut
returns-in_default g c ready =
    let old = c.args.self.now in
    let done = c.carry_out.ensures in
    let none = done.2 ∙ c.take.ensures.after in
    let prints = goes_on old.two (script_of old.desk) (script_of c.carry_out.new.self.desk) c.args.line.now done.0 ready
    (λ m some. elim c.in_default.branch [
      | in_default-via-in-Some+in_default w ↦ sym c.chosen_version.ensures ∙ w.in_default.is-1
      | in_default-via-in_default w ↦ absurd (none_some (sym w.in_default.is-0 ∙ c.take.ensures.value ∙ some))
    ]) done.1 in
    (done.0, rw none prints, rw none tt, done.3)
