-- A step counts a command exactly if it accepts it.
use Rattle.gl_steps.proofs.Words.{◌&&◌, ◌+◌, ◌∙◌, ◌≡◌, ⊎_elim, Accepts, Active, Answer, Answers, ap, Bool, Command, false, Goes, lock_answer, may_lack_memory}
use Rattle.gl_steps.proofs.Words.{Mode, None, not, Option, query_answer, refl, Refusal, refusal_of, Some, State, Status, status_of, Step, Told, true, Unchanged}
use Rattle.gl_modes.specs.declared.refusal.Refusal.TheVariants as no
use Rattle.gl_steps.specs.declared.command.Answer.TheVariants as answer
use Rattle.gl_steps.specs.declared.command.Command.TheVariants as command
use Rattle.gl_steps.proofs.Accepting.{accepting_keeps_count}
use Rattle.gl_steps.specs.Served.{accepts, Counts, is_query, is_refused}

lock_not_refused : (m : Mode) (o : Option Status) → is_refused (lock_answer m o) ≡ false
lock_not_refused m (Some Active) = refl
lock_not_refused m o = refl

-- an accepted command is not answered with a refusal
not_refused : (s : State) (c : Command) (a : Answer) (told : Told) (s' : State) → Accepts s c a told s' → is_refused a ≡ false
not_refused s (command.Inner ps) a told s' acc = ap is_refused acc.2
not_refused s (command.File ps) a told s' acc = ap is_refused acc.2
not_refused s (command.Index ps f bs) a told s' acc = ap is_refused acc.2
not_refused s (command.Insert t f keys) a told s' acc = ap is_refused acc.2
not_refused s command.Begin a told s' acc = ap is_refused acc.2
not_refused s (command.BeginAgain since) a told s' acc = ap is_refused acc.2
not_refused s (command.Lock t n m) a told s' acc = ap is_refused acc.1 ∙ lock_not_refused (s'.held t.slot n) (status_of s' t.slot)
not_refused s (command.Group n) a told s' acc = absurd acc
not_refused s (command.Held t n) a told s' acc = absurd acc
not_refused s (command.Effective t n) a told s' acc = absurd acc
not_refused s (command.Adopt f keys) a told s' acc = ap is_refused acc.2
not_refused s (command.IndexBy t ps f bs rs ks) a told s' acc = ap is_refused acc.2
not_refused s (command.Split t i at) a told s' acc = ap is_refused acc.2
not_refused s c a told s' acc = ap is_refused acc.0

-- exactly the queries have an answer of their own
is_some_query : (s : State) (c : Command) (q : Answer) → query_answer s c ≡ Some q → is_query c ≡ true
is_some_query s (command.Group n) q e = refl
is_some_query s (command.Held t n) q e = refl
is_some_query s (command.Effective t n) q e = refl
is_some_query s c q e = absurd (cc e)

no_query : (s : State) (c : Command) → query_answer s c ≡ None → is_query c ≡ false
no_query s (command.Group n) e = absurd (cc e)
no_query s (command.Held t n) e = absurd (cc e)
no_query s (command.Effective t n) e = absurd (cc e)
no_query s c e = refl

and_false : (a : Bool) → (a && false) ≡ false
and_false true = refl
and_false false = refl

differ : {A : Type 0} (b : Bool) → b ≡ true → b ≡ false → A
differ true e f = absurd (cc f)
differ false e f = absurd (cc e)

module _ (s : State) (c : Command) (a : Answer) (told : Told) (s' : State) where
  -- nothing happens to a command that is not accepted
  unchanged : (is : Answer) → accepts c is ≡ false → Unchanged s a told s' is → Counts s c a told s'
  unchanged is out same = record {
    not_accepted = λ _. (same.same, same.nobody_told);
    accepted = λ h. differ (accepts c a) h (ap (accepts c) same.answer_is ∙ out);
  }

  answered : (q : Option Answer) → query_answer s c ≡ q → Answers s c q a told s' → Counts s c a told s'
  answered (Some x) e same = unchanged x (ap (λ b. not b && not (is_refused x)) (is_some_query s c x e)) same
  answered None e ends =
      let kept = accepting_keeps_count s c a told ends.0 ends.1 in
      let yes : accepts c a ≡ true = ap (λ b. not b && not (is_refused a)) (no_query s c e) ∙ ap not (not_refused s c a told ends.0 ends.1) in
      record {
        not_accepted = λ h. differ (accepts c a) yes h;
        accepted = λ _. ap (λ z. z.accepted) ends.2 ∙ ap (λ k. k + 1) kept;
      }

  goes : (r : Option Refusal) → Goes s c r a told s' → Counts s c a told s'
  goes (Some r) same = unchanged (answer.Refused r) (and_false (not (is_query c))) same
  goes None ends = answered (query_answer s c) refl ends

  pub step_counts : Step s c a told s' → Counts s c a told s'
  step_counts step =
      ⊎_elim (λ h. goes (refusal_of s c) h)
      (λ (lack : (may_lack_memory s c ≡ true) × Unchanged s a told s' (answer.Refused no.NoMemory)).
      unchanged (answer.Refused no.NoMemory) (and_false (not (is_query c))) lack.1) step
