use Rattle.std.proofs.Common.{refl, ap, subst, ◌≡◌, ◌∙◌, ◌*◌, ◌+◌, vec_len}
use Rattle.std.proofs.lemmas.Result.{IfOk-weaker}
use Rattle.gl_crew.specs.Crews.{IsCountOf, IsSumOf, shares_of}
use Rattle.gl_crew.proofs.Counts.{same_sessions, sessions_count}
use Rattle.gl_crew.proofs.over.crew_over.Goals as goal

pub run_crew-requires-clause-book : goal.run_crew-requires-clause-book
run_crew-requires-clause-book g c κs within = (refl, refl)

pub returns-clause-count : goal.returns-clause-count
returns-clause-count g c =
    let detect = c.detect-detect.result in
    let k = g.W.Work.commands in
    let shares : c.in_ok-parts.parts.shares ≡ shares_of c.args.sessions detect = c.in_ok-parts.ensures.made.1 ∙ c.share_count.ensures in
    IfOk-weaker
    c.run_crew.result
    _
    _
    (λ ended h none.
    subst (λ d. IsCountOf d k c.args.sessions c.args.rounds ended.count) c.detect-detect.ensures
    (sessions_count detect c.args.sessions c.args.rounds k ended.count (subst (λ n. IsSumOf detect n (c.args.rounds * k) ended.count) shares (h none))))
    c.run_crew.ensures.count

pub returns-clause-accepted : goal.returns-clause-accepted
returns-clause-accepted g c =
    IfOk-weaker c.run_crew.result _ _ (λ ended h. h ∙ ap (λ m. m.accepted + ended.count) c.in_ok-parts.ensures.made.0) c.run_crew.ensures.accepted

pub returns-clause-sessions : goal.returns-clause-sessions
returns-clause-sessions g c =
    let detect = c.detect-detect.result in
    let shares : c.in_ok-parts.parts.shares ≡ shares_of c.args.sessions detect = c.in_ok-parts.ensures.made.1 ∙ c.share_count.ensures in
    IfOk-weaker c.run_crew.result _ _ (λ ended h. same_sessions detect (vec_len ended.faults) c.args.sessions (h ∙ shares)) c.run_crew.ensures.sessions
