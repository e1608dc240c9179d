-- No definition of the model reads the count of accepted commands.
use Rattle.gl_steps.proofs.Words.{ap, AtBlock, ByWatcher, condemned, Detect, enqueued, HasNoCycle, IsLawful, Locks, Mode, NodeId, Settled}
use Rattle.gl_steps.proofs.Words.{SettledWithin, State, suc, Victims, WaitSettles, wanted, zero, ℕ}
use Rattle.std.proofs.Common.{get_or}
use Rattle.gl_model.specs.declared.deadlock.Deadlock.{Deadlock}
use Rattle.gl_model.specs.declared.deadlock.Stuck.{Stuck}
use Rattle.gl_model.specs.Deadlocks.{IsDeadlock, IsStuck, LocksKeeping, SettlesKeeping, SettlesKeepingWithin, WaitSettlesKeeping}
use Rattle.gl_model.specs.Lawful.{HasNoConflict}
use Rattle.gl_model.specs.State.{counting, IsVictim}

module _ (k : ℕ) where
  -- the law does not
  pub lawful_counting : (s : State) → IsLawful s → IsLawful (counting k s)
  lawful_counting s law = record {
    graph = law.graph;
    grants_live = law.grants_live;
    waits_live = law.waits_live;
    compatible = law.compatible;
    grants_intend = law.grants_intend;
    waits_intend = law.waits_intend;
    one_wait = law.one_wait;
    waits_are = law.waits_are;
    holders_first = law.holders_first;
    front_waits = law.front_waits;
    slots_below = law.slots_below;
    ages = law.ages;
    ages_differ = law.ages_differ;
    known = law.known;
  }

  -- nor do conflicts
  pub no_conflict_counting : (s : State) → HasNoConflict s → HasNoConflict (counting k s)
  no_conflict_counting s none t u r c = none t u r (record { differ = c.differ; writes = c.writes; reads = c.reads })

  -- nor the waits
  pub no_cycle_counting : (s : State) → HasNoCycle s → HasNoCycle (counting k s)
  no_cycle_counting s none = none

  -- nor settling
  victim_counting : (c : Victims) (s : State) (t v : ℕ) → IsVictim c s t v → IsVictim c (counting k s) t v
  victim_counting c s t v h = h

  within_counting : (c : Victims) (turns : ℕ) (s : State) (t : ℕ) (s' : State) → SettledWithin c turns s t s'
      → SettledWithin c turns (counting k s) t (counting k s')
  within_counting c zero s t s' h = (h.0, ap (counting k) h.1)
  within_counting c (suc turns) s t s' h = (h.0, victim_counting c s t h.0 h.1, within_counting c turns (condemned s h.0) t s' h.2)

  pub settled_counting : (c : Victims) (s : State) (t : ℕ) (s' : State) → Settled c s t s' → Settled c (counting k s) t (counting k s')
  settled_counting c s t s' h = (h.0, within_counting c h.0 s t s' h.1)

  -- nor what a lock leaves
  waits_counting : (d : Detect) (c : Victims) (s : State) (t : ℕ) (s' : State) → WaitSettles d c s t s' → WaitSettles d c (counting k s) t (counting k s')
  waits_counting AtBlock c s t s' h = settled_counting c s t s' h
  waits_counting ByWatcher c s t s' h = ap (counting k) h

  pub locks_counting : (s : State) (t : ℕ) (n : NodeId) (m : Mode) (s' : State) → Locks s t n m s' → Locks (counting k s) t n m (counting k s')
  locks_counting s t n m s' h = record {
    at_once = λ e. ap (counting k) (h.at_once e);
    waits = λ e. waits_counting s.detect s.victims (enqueued s t n (wanted s t n m)) t s' (h.waits e);
  }

  -- nor what is kept of deadlocks
  stuck_counting : (s : State) (t : ℕ) (r : Stuck) → IsStuck s t r → IsStuck (counting k s) t r
  stuck_counting s t r h = record { on_cycle = h.on_cycle; name = h.name; waits = h.waits; waits_for = h.waits_for }

  deadlock_counting : (s : State) (t v : ℕ) (e : Deadlock) → IsDeadlock s t v e → IsDeadlock (counting k s) t v e
  deadlock_counting s t v e h = record {
    victim = h.victim;
    rows = λ i r low. stuck_counting s t (get_or e.cycle.items i r) (h.rows i r low);
    whole =
        h.whole;
    rising = h.rising;
  }

  keeping_within_counting : (c : Victims) (turns : ℕ) (s : State) (t : ℕ) (d : Deadlock) (s' : State) (d' : Deadlock)
      → SettlesKeepingWithin c turns s t d s' d' → SettlesKeepingWithin c turns (counting k s) t d (counting k s') d'
  keeping_within_counting c zero s t d s' d' h = (h.0, ap (counting k) h.1, h.2)
  keeping_within_counting c (suc turns) s t d s' d' h =
      (h.0, h.1, victim_counting c s t h.0 h.2, deadlock_counting s t h.0 h.1 h.3, keeping_within_counting c turns (condemned s h.0) t h.1 s' d' h.4)

  pub keeping_counting : (c : Victims) (s : State) (t : ℕ) (d : Deadlock) (s' : State) (d' : Deadlock) → SettlesKeeping c s t d s' d'
      → SettlesKeeping c (counting k s) t d (counting k s') d'
  keeping_counting c s t d s' d' h = (h.0, keeping_within_counting c h.0 s t d s' d' h.1)

  wait_keeping_counting : (by : Detect) (c : Victims) (s : State) (t : ℕ) (d : Deadlock) (s' : State) (d' : Deadlock)
      → WaitSettlesKeeping by c s t d s' d' → WaitSettlesKeeping by c (counting k s) t d (counting k s') d'
  wait_keeping_counting AtBlock c s t d s' d' h = keeping_counting c s t d s' d' h
  wait_keeping_counting ByWatcher c s t d s' d' h = h

  pub locks_keeping_counting : (s : State) (t : ℕ) (n : NodeId) (m : Mode) (d : Deadlock) (s' : State) (d' : Deadlock) → LocksKeeping s t n m d s' d'
      → LocksKeeping (counting k s) t n m d (counting k s') d'
  locks_keeping_counting s t n m d s' d' h = record {
    at_once = h.at_once;
    waits = λ e. wait_keeping_counting s.detect s.victims (enqueued s t n (wanted s t n m)) t d s' d' (h.waits e);
  }
