use Rattle.std.proofs.Common.{rules, arith, sym, subst, ◌≡◌, ◌≤◌, ◌+◌, ◌-◌, ◌*◌, length, sum, vec_len}
use Rattle.gl_crew.proofs.Counts.{sum_watched}
use Rattle.gl_crew.proofs.over.serve_watched.Goals as goal

pub returns-clause-count : goal.returns-clause-count
returns-clause-count g c none =
    let k = c.args.rounds * g.W.Work.commands in
    let xs = c.serve_beside-last.result.1.shares.items in
    let front : length xs ≡ vec_len c.serve_beside-last.result.1.shares = search rules in
    let many : vec_len c.args.shares ≡ length xs + 1 = omega (arith, front, c.serve_beside-last.ensures.each.0, c.in-Some.ensures.len) in
    subst (λ l. (vec_len c.args.shares - 1) * k ≤ sum l) (sym c.push_reserved.ensures.items)
    (sum_watched k (vec_len c.args.shares) _ xs many (c.serve_beside-last.ensures.served none))
