-- A step adds nothing to the counters if the count of accepted commands stays.
use Rattle.std.specs.Prelude.{◌≡◌, [], max}
use Rattle.gl_modes.specs.declared.refusal.Refusal.{Refusal}
use Rattle.gl_model.specs.State.{State}
use Rattle.gl_steps.specs.declared.command.Answer.TheVariants as answer
use Rattle.gl_steps.specs.declared.command.Command.{Command}
use Rattle.gl_catalog.specs.declared.counters.Counters.{Counters}
use Rattle.gl_catalog.specs.Counters.{counted, rises}
use Rattle.gl_catalog.proofs.Counts.{max_none, rises_none}

-- nothing rises
pub raised_by_none : (k : Counters)
    → record {
      granted = rises k.granted 0;
      waited = rises k.waited 0;
      conversions = rises k.conversions 0;
      passed = rises k.passed 0;
      granted_later = rises k.granted_later 0;
      victims = rises k.victims 0;
      moved = rises k.moved 0;
      gone = rises k.gone 0;
      escalations = rises k.escalations 0;
      released_children = rises k.released_children 0;
      most_waiting = max k.most_waiting 0;
      longest_queue = max k.longest_queue 0;
    } ≡ k
raised_by_none k = λ i. record {
  granted = rises_none k.granted i;
  waited = rises_none k.waited i;
  conversions = rises_none k.conversions i;
  passed = rises_none k.passed i;
  granted_later = rises_none k.granted_later i;
  victims = rises_none k.victims i;
  moved = rises_none k.moved i;
  gone = rises_none k.gone i;
  escalations = rises_none k.escalations i;
  released_children = rises_none k.released_children i;
  most_waiting = max_none k.most_waiting i;
  longest_queue = max_none k.longest_queue i;
}

-- a refusal that tells nobody
pub refusal_counted : (s s' : State) (c : Command) (r : Refusal) (k : Counters) → counted s c (answer.Refused r) [] s' k ≡ k
refusal_counted s s' c r k = raised_by_none k
