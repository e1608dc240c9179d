-- What is known of the waits after a waiter went on, or its time was over: nothing. For Guarded.go_on and time_out.
use Rattle.std.specs.Prelude.{◌≡◌, ℕ, Bool, true, false, Option, Some, None}
use Rattle.std.proofs.Common.{subst, sym}
use Rattle.gl_modes.proofs.Words.{no}
use Rattle.gl_slots.specs.Slots.{has_none}
use Rattle.gl_slots.specs.declared.slots.Slots.{Slots}
use Rattle.gl_model.specs.State.{State}
use Rattle.gl_model.specs.declared.txn.TxnId.{TxnId}
use Rattle.gl_waiting.specs.Resting.{ActsIn}
use Rattle.gl_waiting.specs.declared.waiter.Came.{Came}
use Rattle.gl_waiting.proofs.Rests.{same_slot}
use Rattle.gl_waiting.proofs.TurnRuns.{on_command}
use Rattle.gl_c.specs.locks.Waiters.{on_slot}
use Rattle.gl_window.specs.Strip.{Strip}
use Rattle.gl_window.specs.Tellings.{still_known}
use Rattle.gl_c.specs.managers.Serving.{KnowsWaits, known_after}

-- nothing is known
pub knows_none : (s : State) (shown : Option Strip) (parties : Option Slots) → KnowsWaits s shown (still_known parties (λ known. false))
knows_none s shown None = tt
knows_none s shown (Some set) = tt

-- what is forgotten is known after no call
pub forgets : (went_on : Bool) (parties after : Option Slots) → after ≡ known_after true parties has_none
    → after ≡ known_after went_on parties (λ known. false)
forgets true parties after is = is
forgets false None after is = is
forgets false (Some set) after is = is

-- a waiter that goes on acts in its slot
pub on_acts : (o : Option (TxnId × Came)) (slot : Option ℕ) → slot ≡ on_slot o → ActsIn slot (on_command o)
on_acts o slot is = subst (λ (x : Option ℕ). ActsIn x (on_command o)) (sym is) (by o)
  where
    by : (o : Option (TxnId × Came)) → ActsIn (on_slot o) (on_command o)
    by (Some x) t h = same_slot t x.0 h
    by None t h = absurd (no h)
