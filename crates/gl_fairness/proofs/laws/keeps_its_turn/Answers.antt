use Rattle.gl_fairness.proofs.VictimOrder.{victim_after_a_living, victim_after_others, victim_after_somebody}
use Rattle.gl_fairness.proofs.KeepsTurns.{first_is_never_victim, no_more_come_before}
use Rattle.gl_fairness.proofs.laws.keeps_its_turn.Goals as goal

pub returns : goal.returns
returns c = record {
  others = victim_after_others;
  somebody = victim_after_somebody;
  living = victim_after_a_living;
  no_more = no_more_come_before;
  first = first_is_never_victim;
}
