use Rattle.gl_interpreter.proofs.Words.{◌∙◌, ◌≡◌, names_of, sym, true≢false}
use Rattle.gl_steps.specs.declared.command.Answer.TheVariants as answer
use Rattle.gl_interpreter.proofs.desk.Desk.free_node.Goals.{in-Done, in_default}
use Rattle.gl_interpreter.proofs.desk.Desk.free_node.Goals as goal

pub returns-then-matches-clause-names : goal.returns-then-matches-clause-names
returns-then-matches-clause-names c =
    let done : c.args.answer ≡ answer.Done =
    elim c.match-matches.branch [
      | in-Done w ↦ w.in-Done.is
      | in_default w ↦ absurd (true≢false (sym c.if-matches.true ∙ w.matches-is))
    ] in
    let names = rw c.plain_id-id.ensures at c.remove.ensures.names in
    rw done (λ i. record (names_of c.args.self.now) { node = c.remove.ensures.ids i; node_name = names i })
