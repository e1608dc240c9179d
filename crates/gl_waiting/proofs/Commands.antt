-- Each command of a table of waiters, alone.
use Rattle.std.specs.Prelude.{◌≡◌, ◌&&◌, not, Bool, true, false, Some}
use Rattle.std.proofs.Common.{refl, sym, ap, subst, ◌∙◌, inl, inr, arith}
use Rattle.gl_modes.specs.declared.refusal.Refusal.{Refusal}
use Rattle.gl_slots.specs.declared.slots.Slots.{Slots}
use Rattle.gl_model.specs.State.{State}
use Rattle.gl_model.specs.Tellings.{Told}
use Rattle.gl_steps.proofs.Serving.{step_counts}
use Rattle.gl_steps.specs.Served.{accepts, is_query}
use Rattle.gl_steps.specs.Step.{Step}
use Rattle.gl_steps.specs.declared.command.Answer.{Answer}
use Rattle.gl_steps.specs.declared.command.Answer.TheVariants as answer
use Rattle.gl_steps.specs.declared.command.Command.{Command}
use Rattle.gl_catalog.specs.Manager.{state_of}
use Rattle.gl_rows.specs.Applying.{Upkeep}
use Rattle.gl_rows.specs.Rows.{RegistryView}
use Rattle.gl_rows.specs.Serving.{IsServed, lets_go, remains_after}
use Rattle.gl_rows.proofs.Tidied.{served_kept, served_upkeep, unaccepted_alone}
use Rattle.gl_waiting.specs.Asking.{IsNothing, Serves}
use Rattle.gl_waiting.specs.Delivering.{Carries, ComesToNothing, DeliveryView, registry_in}
use Rattle.gl_waiting.specs.Laws.{CommandsAreSteps, RefusalsChangeNothing}
use Rattle.gl_waiting.specs.Waiting.{WaitingView, delivery_in}
use Rattle.gl_waiting.proofs.Delivered.{made}
use Rattle.gl_waiting.proofs.Turns.{idle_turn}

-- a command that was answered is served
served : (v mid : WaitingView) (c : Command) (a : Answer) (told : Told) (ended : Slots) → Serves v c (Some a) told ended mid
    → IsServed (registry_in (delivery_in v)) c a told (registry_in (delivery_in mid))
served v mid c a told ended h = made (registry_in (delivery_in v)) (registry_in (delivery_in mid)) c a told h.serves

-- so it is a step, after which records may be forgotten
abbrev StepsThen : State → Command → Answer → Told → State → Type 0
StepsThen s c a told s' = (mid : State) × Step s c a told mid × Upkeep mid s' × (lets_go (remains_after c a) ≡ false → s' ≡ mid)

steps_then : (v v' : RegistryView) (c : Command) (a : Answer) (told : Told) → IsServed v c a told v'
    → StepsThen (state_of v.manager) c a told (state_of v'.manager)
steps_then v v' c a told h =
    (state_of h.mid, h.applies.step, served_upkeep v v' c a told h, λ quiet. ap state_of (served_kept v v' c a told h quiet))

-- no refusal is an accepted answer
none_accepted : (x : Command) (r : Refusal) → accepts x (answer.Refused r) ≡ false
none_accepted x r = no_query (not (is_query x))
  where
    no_query : (b : Bool) → (b && false) ≡ false
    no_query true = refl
    no_query false = refl

-- a refused command comes to nothing
refused_idle : (d d' : DeliveryView) (c : Command) (r : Refusal) (told : Told) (ended : Slots)
    → IsServed (registry_in d) c (answer.Refused r) told (registry_in d') → Carries d c told ended d' → ComesToNothing d told ended d'
refused_idle d d' c r told ended h (inl so) =
    let it = unaccepted_alone (registry_in d) (registry_in d') c (answer.Refused r) told (none_accepted c r) h in
    let same : d'.manager.accepted ≡ d.manager.accepted =
    ap (λ (s : State). s.accepted) ((step_counts _ _ _ _ _ it.applies.step).not_accepted (none_accepted c r)).0 in
    let more = so.0 in absurd (omega (arith, same, more))
refused_idle d d' c r told ended h (inr idle) = idle

pub commands_are_steps : CommandsAreSteps
commands_are_steps v c a told off v' h empty =
    let queue = h.called.beside.1 ∙ empty in
    let handed = idle_turn h.mid h.mid h.own off v' (inl queue) h.hands refl refl in (
      subst (λ (x : WaitingView). StepsThen (state_of v.manager) c a told (state_of x.manager)) (sym handed.0)
          (steps_then (registry_in (delivery_in v)) (registry_in (delivery_in h.mid)) c a told (served v h.mid c a told h.own h.called)),
      ap (λ (x : WaitingView). x.places) handed.0 ∙ h.called.beside.0,
      ap (λ (x : WaitingView). x.queue) handed.0 ∙ queue,
      ap (λ (x : WaitingView). x.begun) handed.0 ∙ h.called.beside.2,
    )

pub refusals_change_nothing : RefusalsChangeNothing
refusals_change_nothing v c r told off v' h =
    let idle = refused_idle (delivery_in v) (delivery_in h.mid) c r told h.own (served v h.mid c (answer.Refused r) told h.own h.called)
    h.called.delivers in
    let mid : h.mid ≡ v = h.called.nothing (ap (λ (d : DeliveryView). d.manager.accepted) idle.same) in
    let handed = h.nothing (ap (λ (x : WaitingView). x.manager) mid) h.called.beside.1 in (
      handed.0 ∙ mid,
      idle.untold,
      subst IsNothing (sym handed.1) (idle.none, refl),
    )
