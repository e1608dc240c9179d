use Rattle.std.proofs.Common.{List, ap, sym, ◌∙◌, arith}
use Rattle.std.proofs.lemmas.Grind.{common_steps}
use Rattle.gl_waiting.specs.Begins.{has_word}
use Rattle.gl_waiting.proofs.BeginQueues.{IsFirst, is_first, is_no_place}
use Rattle.gl_waiting.specs.declared.begins.QueuedBegin.{QueuedBegin}
use Rattle.gl_waiting.proofs.begins.BeginQueue.withdraw.Goals as goal

pub returns-in-Some-clause-found : goal.returns-in-Some-clause-found
returns-in-Some-clause-found c =
    let first : IsFirst (has_word c.args.word) c.args.self.now.waiting c.in-Some.place = is_first _ _ _ (sym c.place_of.ensures ∙ c.in-Some.is) in
    grind (arith, common_steps)

pub returns-in-Some-clause-rest : goal.returns-in-Some-clause-rest
returns-in-Some-clause-rest c =
    let first : IsFirst (has_word c.args.word) c.args.self.now.waiting c.in-Some.place = is_first _ _ _ (sym c.place_of.ensures ∙ c.in-Some.is) in
    grind (arith, common_steps)

pub returns-in-None-clause-found : goal.returns-in-None-clause-found
returns-in-None-clause-found c = sym (is_no_place _ c.args.self.now.waiting (sym c.place_of.ensures ∙ c.in-None.is)).none

pub returns-in-None-clause-rest : goal.returns-in-None-clause-rest
returns-in-None-clause-rest c =
    ap (λ (queue : List QueuedBegin). record c.args.self.now { waiting = queue })
    (sym (is_no_place _ c.args.self.now.waiting (sym c.place_of.ensures ∙ c.in-None.is)).rest)
