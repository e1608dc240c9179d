use Rattle.gl_waits.proofs.Words.{◌∙◌, refl, sym}
use Rattle.gl_waits.proofs.Chosen.{chosen-later, chosen-latest, chosen-low, chosen-none, chosen-stays, still-within}
use Rattle.gl_waits.proofs.victim.latest_of.Goals as goal

pub loop-slot-init : goal.loop-slot-init
loop-slot-init g c = ((λ u. refl), (λ u h. h))

pub loop-slot-preserved-then-is_later : goal.loop-slot-preserved-then-is_later
loop-slot-preserved-then-is_later g c = (
  chosen-later c.args.set c.loop-slot.left c.take_lowest.new.self (g.A.Ages.since_of c.args.ages.now) (g.A.Ages.age_of c.args.ages.now)
      c.in-Some.slot c.in-Some.ensures.some c.loop-slot.invariant.1 c.in-Some.ensures.left c.loop-slot.chosen c.loop-slot.invariant.0
      (sym c.is_later.ensures ∙ c.if-is_later.true),
  still-within c.args.set c.loop-slot.left c.take_lowest.new.self (g.A.Ages.since_of c.args.ages.now) (g.A.Ages.age_of c.args.ages.now)
      c.in-Some.slot c.in-Some.ensures.some c.loop-slot.invariant.1 c.in-Some.ensures.left,
)

pub loop-slot-preserved : goal.loop-slot-preserved
loop-slot-preserved g c = (
  chosen-stays c.args.set c.loop-slot.left c.take_lowest.new.self (g.A.Ages.since_of c.args.ages.now) (g.A.Ages.age_of c.args.ages.now)
      c.in-Some.slot c.in-Some.ensures.some c.loop-slot.invariant.1 c.in-Some.ensures.left c.loop-slot.chosen c.loop-slot.invariant.0
      (sym c.is_later.ensures ∙ c.if-is_later.false),
  still-within c.args.set c.loop-slot.left c.take_lowest.new.self (g.A.Ages.since_of c.args.ages.now) (g.A.Ages.age_of c.args.ages.now)
      c.in-Some.slot c.in-Some.ensures.some c.loop-slot.invariant.1 c.in-Some.ensures.left,
)

pub returns-clause-none : goal.returns-clause-none
returns-clause-none g c = chosen-none c.args.set c.loop-slot.left
    (g.A.Ages.since_of c.args.ages.now) (g.A.Ages.age_of c.args.ages.now) c.in_default.ensures.none c.loop-slot.chosen c.loop-slot.invariant.0

pub returns-clause-some : goal.returns-clause-some
returns-clause-some g c = chosen-latest c.args.set c.loop-slot.left
    (g.A.Ages.since_of c.args.ages.now) (g.A.Ages.age_of c.args.ages.now) c.in_default.ensures.none c.loop-slot.chosen c.loop-slot.invariant.0

pub returns-clause-low : goal.returns-clause-low
returns-clause-low g c = chosen-low c.args.set c.loop-slot.left
    (g.A.Ages.since_of c.args.ages.now) (g.A.Ages.age_of c.args.ages.now) c.in_default.ensures.none c.loop-slot.chosen c.loop-slot.invariant.0
