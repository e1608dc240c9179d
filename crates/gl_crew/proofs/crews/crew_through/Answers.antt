use Rattle.std.proofs.Common.{subst}
use Rattle.gl_crew.specs.Crews.{IsCount, IsCountOf, first_fault}
use Rattle.gl_crew.proofs.Counts.{answer_count, faultless}
use Rattle.gl_crew.proofs.crews.crew_through.Goals as goal

pub returns : goal.returns
returns g c =
    let ended = c.in_ok-crew_over.field-0 in
    let faults = ended.faults.items in
    answer_count
    (first_fault faults)
    c.answer.result
    ended.count
    (IsCount c.args.detect c.args.sessions c.args.rounds)
    c.answer.ensures
    (λ none. subst (λ d. IsCountOf d 7 c.args.sessions c.args.rounds ended.count) c.in_ok-manager.ensures
    (c.in_ok-crew_over.ensures.count (faultless faults none)))
