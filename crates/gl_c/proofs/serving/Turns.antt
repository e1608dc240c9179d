-- A begin in turn: it is a run, and what is known of the waits after it. For Guarded.begin_in_turn.
use Rattle.gl_slots.specs.declared.slots.Slots.{Slots}
use Rattle.gl_slots.specs.Limit.{most_slots}
use Rattle.std.specs.Prelude.{◌≡◌, ◌≤◌, ℕ, Bool, true, false, [], Option, Some, None, Ok, Err, if◌then◌else◌}
use Rattle.std.proofs.Common.{sym, ap, subst, inl, inr}
use Rattle.gl_modes.specs.declared.refusal.Refusal.{Refusal}
use Rattle.gl_model.specs.Lawful.{IsLawful}
use Rattle.gl_model.specs.State.{State}
use Rattle.gl_model.specs.Tellings.{Told}
use Rattle.gl_steps.specs.Step.{Goes, Step}
use Rattle.gl_steps.specs.Tests.{refusal_of}
use Rattle.gl_steps.specs.declared.command.Answer.{Answer}
use Rattle.gl_steps.specs.declared.command.Answer.TheVariants as answer
use Rattle.gl_steps.specs.declared.command.Command.{Command}
use Rattle.gl_steps.specs.declared.command.Command.TheVariants as command
use Rattle.gl_catalog.specs.Manager.{state_of}
use Rattle.gl_waiting.specs.Asking.{BeginsInTurn, begin_of}
use Rattle.gl_waiting.specs.Delivering.{registry_in}
use Rattle.gl_waiting.specs.Waiting.{WaitingView, delivery_in}
use Rattle.gl_waiting.specs.declared.begins.QueuedBegin.{QueuedBegin}
use Rattle.gl_waiting.specs.declared.begins.Turn.{Turn}
use Rattle.gl_waiting.specs.declared.begins.Turn.TheVariants as turn
use Rattle.gl_waiting.proofs.Beginning.{begin_made}
use Rattle.gl_waiting.proofs.Runs.{own_same}
use Rattle.gl_waiting.proofs.TurnRuns.{TurnRun, begin_run}
use Rattle.gl_window.specs.Strip.{Strip}
use Rattle.gl_window.specs.Tellings.{still_known}
use Rattle.gl_c.specs.locks.Turns.{turn_said}
use Rattle.gl_c.specs.managers.Carries.{spared_by}
use Rattle.gl_c.specs.managers.Serving.{KnowsWaits}
use Rattle.gl_c.proofs.serving.Known.{command_known}

-- nothing changes but the queue
same_state : (c : Command) (v v' : WaitingView) → state_of v'.manager ≡ state_of v.manager → TurnRun c v v'
same_state c v v' same = own_same c (state_of v.manager) (state_of v'.manager) same

pub turn_is_run : (c : Command) (v : WaitingView) (b : QueuedBegin) (came : Turn) (ended : Slots) (v' : WaitingView) → BeginsInTurn v b came ended v'
    → TurnRun c v v'
turn_is_run c v b (turn.Came result) ended v' h = begin_run c v b.since result ended v' h.2
turn_is_run c v b turn.Queued ended v' h = same_state c v v' (ap (λ (x : WaitingView). state_of x.manager) h.2)
turn_is_run c v b turn.NoMemory ended v' h = same_state c v v' (ap (λ (x : WaitingView). state_of x.manager) h.2)

-- a begin tells nobody
module _ (s : State) (a : Answer) (told : Told) (s' : State) where
  new_told : (o : Option Refusal) → Goes s command.Begin o a told s' → told ≡ []
  new_told (Some r) same = same.nobody_told
  new_told None (next, begun, counted) = begun.3

  again_told : (since : ℕ) (o : Option Refusal) → Goes s (command.BeginAgain since) o a told s' → told ≡ []
  again_told since (Some r) same = same.nobody_told
  again_told since None (next, begun, counted) = begun.3

  begin_told : (since : Option ℕ) → Step s (begin_of since) a told s' → told ≡ []
  begin_told None (inl goes) = new_told (refusal_of s command.Begin) goes
  begin_told None (inr (may, same)) = same.nobody_told
  begin_told (Some since) (inl goes) = again_told since (refusal_of s (command.BeginAgain since)) goes
  begin_told (Some since) (inr (may, same)) = same.nobody_told

-- less is known of the same state
known_less : (s : State) (shown : Option Strip) (parties : Option Slots) (spares : Slots → Bool) → KnowsWaits s shown parties
    → KnowsWaits s shown (still_known parties spares)
known_less s shown None spares known = tt
known_less s shown (Some set) spares known = by (spares set)
  where
    by : (b : Bool) → KnowsWaits s shown (if b then Some set else None)
    by true = known
    by false = tt

module _ (v : WaitingView) (shown : Option Strip) (parties : Option Slots) (knows : KnowsWaits (state_of v.manager) shown parties) (ended : Slots)
    (v' : WaitingView) (law : IsLawful (state_of v.manager)) (few : (state_of v.manager).most ≤ most_slots) where
  same_known : (spares : Slots → Bool) → state_of v'.manager ≡ state_of v.manager → KnowsWaits (state_of v'.manager) shown (still_known parties spares)
  same_known spares same =
      subst (λ (s : State). KnowsWaits s shown (still_known parties spares)) (sym same) (known_less (state_of v.manager) shown parties spares knows)

  pub turn_knows : (b : QueuedBegin) (came : Turn) → BeginsInTurn v b came ended v'
      → KnowsWaits (state_of v'.manager) shown (still_known parties (spared_by (begin_of b.since) (turn_said came) []))
  turn_knows b (turn.Came (Ok t)) begins =
      let told = begins.2.0 in
      let h = begins.2.1 in
      let made = begin_made b.since (registry_in (delivery_in v)) (registry_in (delivery_in v')) (Some (answer.Begun t)) told h.serves in
      let untold : told ≡ [] = begin_told (state_of v.manager) made.0 told (state_of v'.manager) b.since made.2.step in
      subst (λ (l : Told). KnowsWaits (state_of v'.manager) shown (still_known parties (spared_by (begin_of b.since) (Some (answer.Begun t)) l))) untold
      (command_known v shown parties knows ended v' law few (begin_of b.since) (Some (answer.Begun t)) told h)
  turn_knows b (turn.Came (Err r)) h = same_known _ (ap (λ (x : WaitingView). state_of x.manager) h.2.2)
  turn_knows b turn.Queued h = same_known _ (ap (λ (x : WaitingView). state_of x.manager) h.2)
  turn_knows b turn.NoMemory h = same_known _ (ap (λ (x : WaitingView). state_of x.manager) h.2)
