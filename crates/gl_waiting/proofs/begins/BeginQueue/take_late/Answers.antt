use Rattle.std.proofs.Common.{List, Some, None, slice_index_or, ap, sym, ◌∙◌, arith}
use Rattle.std.proofs.lemmas.Grind.{common_steps}
use Rattle.gl_waiting.specs.Begins.{BeginsView, is_late}
use Rattle.gl_waiting.proofs.BeginQueues.{IsFirst, is_first, is_no_place}
use Rattle.gl_waiting.specs.declared.begins.QueuedBegin.{QueuedBegin}
use Rattle.gl_waiting.proofs.begins.BeginQueue.take_late.Goals as goal

pub returns-in_err-place-clause-taken : goal.returns-in_err-place-clause-taken
returns-in_err-place-clause-taken c =
    c.from_residual.ensures ∙ sym (is_no_place _ c.args.self.now.waiting (sym c.place_of_late.ensures ∙ c.in_err-place.was)).found

pub returns-in_err-place-clause-rest : goal.returns-in_err-place-clause-rest
returns-in_err-place-clause-rest c =
    ap (λ (queue : List QueuedBegin). record c.args.self.now { waiting = queue })
    (sym (is_no_place _ c.args.self.now.waiting (sym c.place_of_late.ensures ∙ c.in_err-place.was)).rest)

pub returns-clause-taken : goal.returns-clause-taken
returns-clause-taken c =
    let first : IsFirst (is_late c.args.now) c.args.self.now.waiting c.in_ok-place.place = is_first _ _ _ (sym c.place_of_late.ensures ∙ c.in_ok-place.was) in
    let any : QueuedBegin = record { word = 0; since = None; until = None } in
    c.remove.ensures.succeeds any (grind (arith, common_steps))
    ∙ ap (λ (v : BeginsView). Some (slice_index_or v.waiting c.in_ok-place.place any)) c.self.view_is
    ∙ sym (first.found any)

pub returns-clause-rest : goal.returns-clause-rest
returns-clause-rest c =
    let first : IsFirst (is_late c.args.now) c.args.self.now.waiting c.in_ok-place.place = is_first _ _ _ (sym c.place_of_late.ensures ∙ c.in_ok-place.was) in
    grind (arith, common_steps)
