use Rattle.std.proofs.Common.{sym, subst, ◌≡◌, ◌∙◌, vec_len, ◌*◌}
use Rattle.gl_crew.specs.Crews.{IsFaultless, IsSumOf}
use Rattle.gl_crew.proofs.over.run_crew.Goals as goal

pub returns-clause-count : goal.returns-clause-count
returns-clause-count g c none =
    let amount = c.args.rounds * g.W.Work.commands in
    let many : vec_len c.in_ok-shared.shares ≡ c.args.parts.shares = c.in_ok-shared.ensures.shares.0 ∙ sym c.requires.shares in
    let faultless : IsFaultless c.serve_by-served.result.faults.items = subst (λ f. IsFaultless f.items) c.close.ensures.faults none in
    subst (λ n. IsSumOf c.args.detect n amount c.close.result.count) many
    (subst (IsSumOf c.args.detect (vec_len c.in_ok-shared.shares) amount) (sym c.close.ensures.count) (c.serve_by-served.ensures.count faultless))
