-- A begin: what it is answered, and that a refused one changes nothing.
use Rattle.gl_slots.specs.declared.slots.Slots.{Slots}
use Rattle.std.specs.Prelude.{◌≡◌, ◌+◌, ◌&&◌, ◌||◌, ℕ, true, false, [], Option, Some, None, Ok, Err, is_none}
use Rattle.std.proofs.Common.{refl, sym, ap, subst, ◌∙◌, inl, inr, arith}
use mathlib.Core.Bool.{true≢false}
use Rattle.gl_modes.proofs.Words.{and_both}
use Rattle.gl_modes.specs.declared.refusal.Refusal.{Refusal}
use Rattle.gl_modes.specs.declared.refusal.Refusal.TheVariants as no
use Rattle.gl_model.specs.State.{State}
use Rattle.gl_model.specs.Tellings.{Told}
use Rattle.gl_steps.proofs.Serving.{step_counts}
use Rattle.gl_steps.specs.Step.{Goes, Step}
use Rattle.gl_steps.specs.Tests.{is_cycle, lists_memory, refusal_of}
use Rattle.gl_steps.specs.declared.command.Answer.{Answer}
use Rattle.gl_steps.specs.declared.command.Answer.TheVariants as answer
use Rattle.gl_steps.specs.declared.command.Command.{Command}
use Rattle.gl_steps.specs.declared.command.Command.TheVariants as command
use Rattle.gl_steps.specs.Served.{accepts}
use Rattle.gl_catalog.specs.Manager.{state_of}
use Rattle.gl_rows.specs.Rows.{RegistryView}
use Rattle.gl_rows.specs.Serving.{Applies, ServesBy, touches_rows}
use Rattle.gl_rows.proofs.Tidied.{served_alone}
use Rattle.gl_waiting.specs.Asking.{IsBeginAnswer, IsFull, begin_of}
use Rattle.gl_waiting.specs.Delivering.{Carries, DeliveryView}

module _ (s : State) (a : Answer) (told : Told) (s' : State) where
  new_goes : (o : Option Refusal) → Goes s command.Begin o a told s' → IsBeginAnswer a
  new_goes (Some r) same = (Err r, sym same.answer_is)
  new_goes None (next, begun, counted) = (Ok (record { slot = begun.0; age = s.begins + 1 }), sym begun.2)

  again_goes : (since : ℕ) (o : Option Refusal) → Goes s (command.BeginAgain since) o a told s' → IsBeginAnswer a
  again_goes since (Some r) same = (Err r, sym same.answer_is)
  again_goes since None (next, begun, counted) = (Ok (record { slot = begun.0; age = s.begins + 1 }), sym begun.2)

  pub begin_answered : (since : Option ℕ) → Step s (begin_of since) a told s' → IsBeginAnswer a
  begin_answered None (inl goes) = new_goes (refusal_of s command.Begin) goes
  begin_answered None (inr (may, same)) = (Err no.NoMemory, sym same.answer_is)
  begin_answered (Some since) (inl goes) = again_goes since (refusal_of s (command.BeginAgain since)) goes
  begin_answered (Some since) (inr (may, same)) = (Err no.NoMemory, sym same.answer_is)

-- a registry makes every begin
pub begin_made : (since : Option ℕ) (v v' : RegistryView) (o : Option Answer) (told : Told)
    → ServesBy (touches_rows v (begin_of since)) v (begin_of since) o told v'
    → (a : Answer) × (o ≡ Some a) × Applies v.manager (begin_of since) a told v'.manager
begin_made None v v' o told h = (h.0, h.1, (served_alone v v' command.Begin h.0 told refl h.2).applies)
begin_made (Some since) v v' o told h = (h.0, h.1, (served_alone v v' (command.BeginAgain since) h.0 told refl h.2).applies)

pub command_made : (since : Option ℕ) (c : Command) (v v' : RegistryView) (o : Option Answer) (x : Answer) (told : Told) → c ≡ begin_of since → o ≡ Some x
    → ServesBy (touches_rows v c) v c o told v' → Applies v.manager (begin_of since) x told v'.manager
command_made since c v v' o x told is answered h =
    let made = begin_made since v v' o told (subst (λ (y : Command). ServesBy (touches_rows v y) v y o told v') is h) in
    subst (λ (a : Answer). Applies v.manager (begin_of since) a told v'.manager) (same o made.0 x made.1 answered) made.2
  where
    same : (o : Option Answer) (a b : Answer) → o ≡ Some a → o ≡ Some b → a ≡ b
    same o a b one other = cc (one, other)

pub served_so : (since : Option ℕ) (c : Command) (v v' : RegistryView) (o : Option Answer) (x : Answer) (told : Told) → c ≡ begin_of since → o ≡ Some x
    → ServesBy (touches_rows v c) v c o told v' → ServesBy (touches_rows v (begin_of since)) v (begin_of since) (Some x) told v'
served_so since c v v' o x told is answered h =
    subst (λ (y : Option Answer). ServesBy (touches_rows v (begin_of since)) v (begin_of since) y told v') answered
    (subst (λ (y : Command). ServesBy (touches_rows v y) v y o told v') is h)

-- a begin that was refused came to nothing
module _ (since : Option ℕ) (d d' : DeliveryView) (r : Refusal) (told : Told) (ended : Slots)
    (applies : Applies d.manager (begin_of since) (answer.Refused r) told d'.manager) (carries : Carries d (begin_of since) told ended d') where
  none_accepted : accepts (begin_of since) (answer.Refused r) ≡ false
  none_accepted = by since
    where
      by : (o : Option ℕ) → accepts (begin_of o) (answer.Refused r) ≡ false
      by None = refl
      by (Some x) = refl

  pub refused_same : d' ≡ d
  refused_same = by carries
    where
      by : Carries d (begin_of since) told ended d' → d' ≡ d
      by (inl so) =
          let same : d'.manager.accepted ≡ d.manager.accepted =
          ap (λ (s : State). s.accepted) ((step_counts _ _ _ _ _ applies.step).not_accepted none_accepted).0 in
          let more = so.0 in absurd (omega (arith, same, more))
      by (inr idle) = idle.same

  pub refused_step : Step (state_of d.manager) (begin_of since) (answer.Refused r) [] (state_of d.manager)
  refused_step =
      subst (λ (x : DeliveryView). Step (state_of d.manager) (begin_of since) (answer.Refused r) [] (state_of x.manager)) refused_same
      (subst (λ (l : Told). Step (state_of d.manager) (begin_of since) (answer.Refused r) l (state_of d'.manager))
      ((step_counts _ _ _ _ _ applies.step).not_accepted none_accepted).1 applies.step)

-- Every slot is taken.

refused_as : (s : State) (c : Command) (a : Answer) (told : Told) (s' : State) → IsFull s → refusal_of s c ≡ refusal_of s command.Begin → Step s c a told s'
    → a ≡ answer.Refused no.TooManyTxns
refused_as s c a told s' full same (inl goes) = (subst (λ (o : Option Refusal). Goes s c o a told s') (same ∙ full) goes).answer_is
refused_as s c a told s' full same (inr (may, unchanged)) =
    let lacks : (lists_memory s c && false) ≡ true =
    subst (λ (o : Option Refusal). (lists_memory s c && (is_none o || is_cycle o)) ≡ true) (same ∙ full) may in
    absurd (true≢false (sym (and_both (lists_memory s c) false lacks).1))

-- then every begin is refused for that
pub full_refuses : (s : State) (since : Option ℕ) (a : Answer) (told : Told) (s' : State) → IsFull s → Step s (begin_of since) a told s'
    → a ≡ answer.Refused no.TooManyTxns
full_refuses s None a told s' full step = refused_as s command.Begin a told s' full refl step
full_refuses s (Some since) a told s' full step = refused_as s (command.BeginAgain since) a told s' full refl step

module _ (s : State) (told : Told) (s' : State) where
  full_new : (o : Option Refusal) → Goes s command.Begin o (answer.Refused no.TooManyTxns) told s' → o ≡ Some no.TooManyTxns
  full_new (Some r) same = cc same.answer_is
  full_new None (next, begun, counted) = absurd (cc begun.2)

  full_again : (since : ℕ) (o : Option Refusal) → Goes s (command.BeginAgain since) o (answer.Refused no.TooManyTxns) told s' → o ≡ Some no.TooManyTxns
  full_again since (Some r) same = cc same.answer_is
  full_again since None (next, begun, counted) = absurd (cc begun.2)

  -- a begin that is refused for that says so
  pub refused_full : (since : Option ℕ) → Step s (begin_of since) (answer.Refused no.TooManyTxns) told s' → IsFull s
  refused_full None (inl goes) = full_new (refusal_of s command.Begin) goes
  refused_full None (inr (may, same)) = absurd (cc same.answer_is)
  refused_full (Some since) (inl goes) = full_again since (refusal_of s (command.BeginAgain since)) goes
  refused_full (Some since) (inr (may, same)) = absurd (cc same.answer_is)
