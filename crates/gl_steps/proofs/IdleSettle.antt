-- A settle of a transaction that is on no cycle.
use Rattle.gl_steps.proofs.Words.{[], ◌∙◌, ◌≡◌, ⊎_elim, accepted_once, Answer, ap, Command, Goes, IsLawful, may_lack_memory, None, Option, Refusal, refusal_of}
use Rattle.gl_steps.proofs.Words.{Some, State, Step, sym, Told, true, TxnId, Unchanged, waits_for}
use Rattle.gl_modes.specs.declared.refusal.Refusal.TheVariants as no
use Rattle.gl_waits.specs.Waits.{IsOnNoCycle}
use Rattle.gl_model.proofs.telling.Lists.{settled_same, told_settled_same}
use Rattle.gl_steps.specs.declared.command.Answer.TheVariants as answer
use Rattle.gl_steps.specs.declared.command.Command.TheVariants as command
use Rattle.gl_steps.specs.Promises.{SettlesIdle, SettlesNobody}

module _ (s s' : State) (t : TxnId) (a : Answer) (told : Told) (law : IsLawful s) (none : IsOnNoCycle (waits_for s) t.slot) where
  abbrev Quiet : Type 0
  Quiet = (told ≡ []) × (a ≡ answer.Done → s' ≡ accepted_once s)

  unchanged : (r : Refusal) → Unchanged s a told s' (answer.Refused r) → Quiet
  unchanged r same = (same.nobody_told, λ h. absurd (cc (sym same.answer_is ∙ h)))

  goes : (r : Option Refusal) → Goes s (command.Settle t) r a told s' → Quiet
  goes (Some r) same = unchanged r same
  goes None ends =
      let settled = ends.1.2 in (
        ends.1.1 ∙ told_settled_same s.victims s ends.0 t.slot law none settled,
        λ _. ends.2
            ∙ ap accepted_once (settled_same s.victims s ends.0 t.slot none settled),
      )

  pub quiet_step : Step s (command.Settle t) a told s' → Quiet
  quiet_step step =
      ⊎_elim (λ h. goes (refusal_of s (command.Settle t)) h)
      (λ (lack : (may_lack_memory s (command.Settle t) ≡ true) × Unchanged s a told s' (answer.Refused no.NoMemory)). unchanged no.NoMemory lack.1) step

pub settles_nobody : SettlesNobody
settles_nobody s s' t a told law step none = quiet_step s s' t a told law none step

-- the same of any command: of others nothing is said
pub settles_idle : (c : Command) (s s' : State) (a : Answer) (told : Told) → IsLawful s → Step s c a told s' → SettlesIdle s c a told s'
settles_idle (command.Settle t) s s' a told law step = settles_nobody s s' t a told law step
settles_idle c s s' a told law step = tt
