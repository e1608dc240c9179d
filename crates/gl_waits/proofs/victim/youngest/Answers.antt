use Rattle.gl_waits.proofs.Words.{◌∙◌, has_bit, has_slot, IsTrue, sym}
use Rattle.gl_waits.specs.Boards.{age_in}
use Rattle.gl_waits.proofs.VictimLemmas.{latest-youngest, same-some_latest}
use Rattle.gl_waits.proofs.victim.youngest.Goals as goal

pub returns-clause-some : goal.returns-clause-some
returns-clause-some c =
    latest-youngest (λ u. IsTrue (has_bit c.args.set u)) (age_in c.args.board.now) c.latest_of.result
    (same-some_latest (λ u. IsTrue (has_slot c.from_bits.result u)) (λ u. IsTrue (has_bit c.args.set u))
    (λ u. ((λ h. sym (c.from_bits.ensures u) ∙ h), (λ h. c.from_bits.ensures u ∙ h)))
    (age_in c.args.board.now) (age_in c.args.board.now) c.latest_of.result c.latest_of.ensures.some)
