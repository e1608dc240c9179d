use Rattle.gl_waits.proofs.Words.{◌≡◌, has_slot, number_of, true, ℕ}
use Rattle.gl_waits.proofs.Chosen.{IsChosen}
use Rattle.gl_waits.proofs.victim.latest_of.Given as goal

-- the latest of those tried is chosen, and those left are of the set
abbrev pub invariant-loop-slot : goal.invariant-loop-slot
invariant-loop-slot g l = IsChosen l.fn.set l.left (g.A.Ages.since_of l.ages) (g.A.Ages.age_of l.ages) l.chosen
    × ((u : ℕ) → has_slot l.left u ≡ true → has_slot l.fn.set u ≡ true)

abbrev pub decreases-loop-slot : goal.decreases-loop-slot
decreases-loop-slot g l = number_of l.left
