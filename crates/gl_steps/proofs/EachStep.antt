-- What holds of every command that is accepted holds of every step.
use Rattle.gl_steps.proofs.Words.{◌≡◌, ⊎_elim, accepted_once, Accepts, Answer, Answers, Command, Goes, may_lack_memory, None, Option, query_answer, refl}
use Rattle.gl_steps.proofs.Words.{Refusal, refusal_of, Some, State, Step, subst, sym, Told, true, Unchanged}
use Rattle.gl_modes.specs.declared.refusal.Refusal.TheVariants as no
use Rattle.gl_steps.specs.declared.command.Answer.TheVariants as answer

-- a relation of the state before and after that holds if nothing changes, and that does not read the count of accepted commands
pub each_step : (After : State → Type 0) (s : State) (c : Command) (a : Answer) (told : Told) (s' : State) → After s
    → ((next : State) → After next → After (accepted_once next))
    → (refusal_of s c ≡ None → (next : State) → Accepts s c a told next → After next) → Step s c a told s' → After s'
each_step After s c a told s' stays counted accepted step =
    ⊎_elim (λ goes. by (refusal_of s c) refl goes)
    (λ (lack : (may_lack_memory s c ≡ true) × Unchanged s a told s' (answer.Refused no.NoMemory)). subst After (sym lack.1.same) stays) step
  where
    answered : refusal_of s c ≡ None → (q : Option Answer) → Answers s c q a told s' → After s'
    answered free (Some x) same = subst After (sym same.same) stays
    answered free None ends = subst After (sym ends.2) (counted ends.0 (accepted free ends.0 ends.1))

    by : (r : Option Refusal) → refusal_of s c ≡ r → Goes s c r a told s' → After s'
    by (Some r) e same = subst After (sym same.same) stays
    by None e goes = answered e (query_answer s c) goes
