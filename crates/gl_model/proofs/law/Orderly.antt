-- A lawful state is orderly, as it is between the steps of a call.
use Rattle.gl_model.proofs.Words.{IsLawful, IsOrderly, State}

-- what a lawful state says of the steps within a call
pub lawful_orderly : (s : State) → IsLawful s → IsOrderly s
lawful_orderly s law = record {
  holders = λ u q h. (law.grants_live u q h).0;
  holders_live = λ u q h. (law.grants_live u q h).1;
  waiters_live = law.waits_live;
  waits_are = law.waits_are;
  one_wait = λ u q m h. (law.one_wait u q m h, (law.waits_intend u q m h).1);
  below = law.slots_below;
}
