use Rattle.gl_waits.proofs.Words.{Bool, has_slot, IfSome, IsCandidate, IsLowestLatest, IsOnCycleOf, IsTrue, subst, sym, Victims, ℕ}
use Rattle.gl_waits.proofs.CycleLemmas.{empty-no_cycle, no_cycle-empty}
use Rattle.gl_waits.proofs.VictimLemmas.{same-some_latest}
use Rattle.gl_waits.proofs.victims.victim_for.Goals as goal

pub returns-in-Youngest-clause-none : goal.returns-in-Youngest-clause-none
returns-in-Youngest-clause-none g c = (
  λ e. empty-no_cycle edge c.args.slot (has_slot c.on_cycle_in.result) c.on_cycle_in.ensures (c.latest_of.ensures.none.0 e),
  λ none. c.latest_of.ensures.none.1 (no_cycle-empty edge c.args.slot (has_slot c.on_cycle_in.result) c.on_cycle_in.ensures none),
)
  where
    edge : ℕ → ℕ → Bool
    edge = g.T.WaitsFor.edge c.args.waits.now

pub returns-in-Youngest-clause-some : goal.returns-in-Youngest-clause-some
returns-in-Youngest-clause-some g c =
    subst (λ (victims : Victims). IfSome c.latest_of.result
    (IsLowestLatest (IsCandidate victims edge c.args.slot) (g.A.Ages.since_of c.args.ages.now) (g.A.Ages.age_of c.args.ages.now))) (sym c.in-Youngest.is)
    (same-some_latest (λ u. IsTrue (has_slot c.on_cycle_in.result u)) (IsOnCycleOf edge c.args.slot) c.on_cycle_in.ensures
    (g.A.Ages.since_of c.args.ages.now) (g.A.Ages.age_of c.args.ages.now) c.latest_of.result c.latest_of.ensures.some)
  where
    edge : ℕ → ℕ → Bool
    edge = g.T.WaitsFor.edge c.args.waits.now
