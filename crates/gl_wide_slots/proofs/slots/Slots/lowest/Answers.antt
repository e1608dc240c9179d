use Rattle.gl_wide_slots.proofs.WordLemmas.{within_slots, lowest_member, lowest_none_below}
use Rattle.gl_wide_slots.proofs.slots.Slots.lowest.Goals as goal

pub returns-clause-some : goal.returns-clause-some
returns-clause-some c = record {
  within = within_slots c.args.self.now.words c.in_ok-place.place c.in_ok-place.ensures.some;
  member = lowest_member c.args.self.now.words c.in_ok-place.place c.in_ok-place.ensures.some;
  none_below = lowest_none_below c.args.self.now.words c.in_ok-place.place c.in_ok-place.ensures.some;
}
