-- What a manager has done, in C's memory.
use Rattle.std.specs.Prelude.{◌≡◌, ℕ, Option, Some, None}
use Rattle.gl_catalog.specs.declared.counters.Counters.{Counters}
use Rattle.gl_c.specs.declared.questions.counts.Counts.{Counts}
use Rattle.gl_c.specs.declared.answers.reply.Reply.{Reply}
use Rattle.gl_c.specs.managers.Carries.{Declines}
use Rattle.gl_c.specs.managers.Guarded.{GuardedView}
use Rattle.gl_c.specs.Numbers.{done, no_manager}
use Rattle.gl_c.specs.answers.Replies.{status_reply}

-- the count of accepted commands, and the other counts
abbrev pub counts_of : ℕ → Counters → Counts
counts_of accepted c = record {
  accepted = accepted;
  granted = c.granted;
  waited = c.waited;
  conversions = c.conversions;
  granted_later = c.granted_later;
  victims = c.victims;
  moved = c.moved;
  gone = c.gone;
  escalations = c.escalations;
  released_children = c.released_children;
  most_waiting = c.most_waiting;
  longest_queue = c.longest_queue;
  passed = c.passed;
}

-- a call that asks for the counts: nothing changes
abbrev pub Counting : Option GuardedView → Reply → Counts → Counts → Option GuardedView → Type 0
Counting None r counts counts' s' = Declines None no_manager r s' × (counts' ≡ counts)
Counting (Some g) r counts counts' s' = (r ≡ status_reply done) × (counts' ≡ counts_of g.manager.accepted g.manager.counters) × (s' ≡ Some g)
