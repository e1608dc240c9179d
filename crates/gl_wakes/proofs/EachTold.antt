-- A step tells nothing, or all notices on the path to some state, or all but the caller's.
use Rattle.std.specs.Prelude.{◌≡◌, ℕ, true, [], Option, Some, None}
use Rattle.std.proofs.Common.{sym, subst, ⊎_elim}
use Rattle.gl_modes.specs.declared.refusal.Refusal.{Refusal}
use Rattle.gl_modes.specs.declared.refusal.Refusal.TheVariants as no
use Rattle.gl_model.specs.State.{State}
use Rattle.gl_model.specs.Tellings.{Told, told, told_but}
use Rattle.gl_steps.specs.declared.command.Answer.{Answer}
use Rattle.gl_steps.specs.declared.command.Answer.TheVariants as answer
use Rattle.gl_steps.specs.declared.command.Command.{Command}
use Rattle.gl_steps.specs.declared.command.Command.TheVariants as command
use Rattle.gl_steps.specs.Step.{Accepts, Answers, Goes, Step, Unchanged, query_answer}
use Rattle.gl_steps.specs.Tests.{may_lack_memory, refusal_of}

module _ (Holds : Told → Type 0) (s : State) (none : Holds []) (all : (now : State) → Holds (told s now))
    (but : (t : ℕ) (now : State) → Holds (told_but t s now)) where
  accepted : (c : Command) (a : Answer) (list : Told) (s' : State) → Accepts s c a list s' → Holds list
  accepted (command.Inner ps) a list s' acc = subst Holds (sym acc.3) none
  accepted (command.File ps) a list s' acc = subst Holds (sym acc.3) none
  accepted (command.Index ps f bs) a list s' acc = subst Holds (sym acc.3) none
  accepted (command.Insert t f keys) a list s' acc = subst Holds (sym acc.3) none
  accepted command.Begin a list s' acc = subst Holds (sym acc.3) none
  accepted (command.BeginAgain since) a list s' acc = subst Holds (sym acc.3) none
  accepted (command.Join t since) a list s' acc = subst Holds (sym acc.1) none
  accepted (command.Lock t n m) a list s' acc = subst Holds (sym acc.2) (but t.slot s')
  accepted (command.Try t n m) a list s' acc = subst Holds (sym acc.1) none
  accepted (command.Cancel t) a list s' acc = subst Holds (sym acc.1) (but t.slot s')
  accepted (command.Renew t since) a list s' acc = subst Holds (sym acc.1) none
  accepted (command.Group n) a list s' acc = absurd acc
  accepted (command.Held t n) a list s' acc = absurd acc
  accepted (command.Effective t n) a list s' acc = absurd acc
  accepted (command.Adopt f keys) a list s' acc = subst Holds (sym acc.3) none
  accepted (command.Forget r) a list s' acc = subst Holds (sym acc.1) none
  accepted (command.IndexBy t ps f bs rs ks) a list s' acc = subst Holds (sym acc.3) none
  accepted (command.Split t i at) a list s' acc = subst Holds (sym acc.3) (all s')
  accepted c a list s' acc = subst Holds (sym acc.1) (all s')

  module _ (c : Command) (a : Answer) (list : Told) (s' : State) where
    answered : (q : Option Answer) → Answers s c q a list s' → Holds list
    answered (Some x) same = subst Holds (sym same.nobody_told) none
    answered None ends = accepted c a list ends.0 ends.1

    goes : (r : Option Refusal) → Goes s c r a list s' → Holds list
    goes (Some r) same = subst Holds (sym same.nobody_told) none
    goes None ends = answered (query_answer s c) ends

    pub told_holds : Step s c a list s' → Holds list
    told_holds step =
        ⊎_elim (λ h. goes (refusal_of s c) h)
        (λ (lack : (may_lack_memory s c ≡ true) × Unchanged s a list s' (answer.Refused no.NoMemory)). subst Holds (sym lack.1.nobody_told) none) step

pub each_told : (Holds : Told → Type 0) (s : State) (c : Command) (a : Answer) (list : Told) (s' : State) → Holds [] → ((now : State) → Holds (told s now))
    → ((t : ℕ) (now : State) → Holds (told_but t s now)) → Step s c a list s' → Holds list
each_told Holds s c a list s' none all but step = told_holds Holds s none all but c a list s' step
