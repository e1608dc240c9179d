use Rattle.std.proofs.Common.{rules, ap, sym, subst, sum, ◌≡◌, ◌∙◌, ◌*◌, ℕ, length, vec_len}
use Rattle.gl_crew.specs.Crews.{IsSumOf}
use Rattle.gl_crew.proofs.Counts.{sum_equal}
use Rattle.gl_crew.proofs.over.serve_by.Goals as goal

pub returns-in-AtBlock-clause-count : goal.returns-in-AtBlock-clause-count
returns-in-AtBlock-clause-count g c none =
    let amount = c.args.rounds * g.W.Work.commands in
    let xs = c.serve_all.result.shares.items in
    let many : length xs ≡ vec_len c.args.shares = search rules in
    let all = sum_equal amount xs (c.serve_all.ensures.served none) ∙ ap (λ (n : ℕ). n * amount) many in
    subst (λ d. IsSumOf d (vec_len c.args.shares) amount (sum xs)) (sym c.in-AtBlock.is) all
