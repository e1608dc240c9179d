-- In a lawful state a command that makes no node has one outcome, since settling ends in one state and all else is an equation.
use Rattle.gl_steps.proofs.Words.{◌+◌, [], ◌∙◌, ◌≡◌, accepted_once, Accepts, Answer, Answers, ap, AtBlock, begun_since, ByWatcher, Command, Detect, enqueued}
use Rattle.gl_steps.proofs.Words.{enters_at, false, Goes, IsLawful, lock_answer, may_lock, min, None, Option, query_answer, refl, Refusal, refusal_of, Some}
use Rattle.gl_steps.proofs.Words.{some_is, split, State, status_of, sym, Told, told, told_but, true≢false, Victims, WaitSettles, wanted, worn, ℕ}
use Rattle.gl_steps.specs.declared.command.Answer.TheVariants as answer
use Rattle.gl_steps.specs.declared.command.Command.TheVariants as command
use Rattle.gl_steps.specs.Promises.{makes_node, OneOutcome}
use Rattle.gl_steps.proofs.Beginning.{Begins}
use Rattle.gl_model.proofs.law.Lock.{MayLock, waiting-lawful}
use Rattle.gl_model.proofs.law.Settle.{settled_one}

wait_one : (d : Detect) (c : Victims) (s s₁ s₂ : State) (t : ℕ) → IsLawful s → WaitSettles d c s t s₁ → WaitSettles d c s t s₂ → s₁ ≡ s₂
wait_one AtBlock c s s₁ s₂ t law h k = settled_one c s s₁ s₂ t law h k
wait_one ByWatcher c s s₁ s₂ t law h k = h ∙ sym k

-- two outcomes of one command
module _ (s s₁ s₂ : State) (a₁ a₂ : Answer) (told₁ told₂ : Told) where
  abbrev Same : Type 0
  Same = (a₁ ≡ a₂) × (told₁ ≡ told₂) × (s₁ ≡ s₂)

  -- others are told by the state that is left
  by_told : {a : Answer} (f : State → Told) → a₁ ≡ a → a₂ ≡ a → told₁ ≡ f s₁ → told₂ ≡ f s₂ → s₁ ≡ s₂ → Same
  by_told f x y p q e = (x ∙ sym y, p ∙ ap f e ∙ sym q, e)

begins_one : (since : ℕ) (s s₁ s₂ : State) (a₁ a₂ : Answer) (told₁ told₂ : Told) → Begins since s a₁ told₁ s₁ → Begins since s a₂ told₂ s₂
    → Same s s₁ s₂ a₁ a₂ told₁ told₂
begins_one since s s₁ s₂ a₁ a₂ told₁ told₂ x y =
    let slot : x.0 ≡ y.0 = some_is (sym x.1 ∙ y.1) in (
      x.2 ∙ ap (λ t. answer.Begun (record { slot = t; age = s.begins + 1 })) slot ∙ sym y.2,
      x.3 ∙ sym y.3,
      x.4 ∙ ap (λ t. begun_since s t since) slot ∙ sym y.4,
    )

same_accepted : (s : State) → IsLawful s → (c : Command) (s₁ s₂ : State) (a₁ a₂ : Answer) (told₁ told₂ : Told) → makes_node c ≡ false → refusal_of s c ≡ None
    → Accepts s c a₁ told₁ s₁ → Accepts s c a₂ told₂ s₂ → Same s s₁ s₂ a₁ a₂ told₁ told₂
same_accepted s law command.Begin s₁ s₂ a₁ a₂ told₁ told₂ none free x y = begins_one (s.begins + 1) s s₁ s₂ a₁ a₂ told₁ told₂ x y
same_accepted s law (command.BeginAgain since) s₁ s₂ a₁ a₂ told₁ told₂ none free x y = begins_one (min since (s.begins + 1)) s s₁ s₂ a₁ a₂ told₁ told₂ x y
same_accepted s law (command.Join t since) s₁ s₂ a₁ a₂ told₁ told₂ none free x y = (x.0 ∙ sym y.0, x.1 ∙ sym y.1, x.2 ∙ sym y.2)
same_accepted s law (command.Lock t n m) s₁ s₂ a₁ a₂ told₁ told₂ none free x y =
    let may : MayLock s t n m = (may_lock s t n m (worn s) [] free).0 in
    let e : s₁ ≡ s₂ =
    split (enters_at s t.slot n m) (λ e. x.0.at_once e ∙ sym (y.0.at_once e))
    (λ e. wait_one s.detect s.victims (enqueued s t.slot n (wanted s t.slot n m)) s₁ s₂ t.slot (waiting-lawful s law t n m may e) (x.0.waits e)
    (y.0.waits e)) in
    (x.1 ∙ ap (λ z. lock_answer (z.held t.slot n) (status_of z t.slot)) e ∙ sym y.1, x.2 ∙ ap (told_but t.slot s) e ∙ sym y.2, e)
same_accepted s law (command.Try t n m) s₁ s₂ a₁ a₂ told₁ told₂ none free x y = (x.0 ∙ sym y.0, x.1 ∙ sym y.1, x.2 ∙ sym y.2)
same_accepted s law (command.Cancel t) s₁ s₂ a₁ a₂ told₁ told₂ none free x y =
    by_told s s₁ s₂ a₁ a₂ told₁ told₂ (told_but t.slot s) x.0 y.0 x.1 y.1 (x.2 ∙ sym y.2)
same_accepted s law (command.Renew t since) s₁ s₂ a₁ a₂ told₁ told₂ none free x y = (x.0 ∙ sym y.0, x.1 ∙ sym y.1, x.2 ∙ sym y.2)
same_accepted s law (command.Settle t) s₁ s₂ a₁ a₂ told₁ told₂ none free x y =
    by_told s s₁ s₂ a₁ a₂ told₁ told₂ (told s) x.0 y.0 x.1 y.1 (settled_one s.victims s s₁ s₂ t.slot law x.2 y.2)
same_accepted s law (command.Group n) s₁ s₂ a₁ a₂ told₁ told₂ none free x y = absurd x
same_accepted s law (command.Held t n) s₁ s₂ a₁ a₂ told₁ told₂ none free x y = absurd x
same_accepted s law (command.Effective t n) s₁ s₂ a₁ a₂ told₁ told₂ none free x y = absurd x
same_accepted s law (command.Forget r) s₁ s₂ a₁ a₂ told₁ told₂ none free x y = (x.0 ∙ sym y.0, x.1 ∙ sym y.1, x.2 ∙ sym y.2)
same_accepted s law (command.Inner ps) s₁ s₂ a₁ a₂ told₁ told₂ none free x y = absurd (true≢false none)
same_accepted s law (command.File ps) s₁ s₂ a₁ a₂ told₁ told₂ none free x y = absurd (true≢false none)
same_accepted s law (command.Index ps f bs) s₁ s₂ a₁ a₂ told₁ told₂ none free x y = absurd (true≢false none)
same_accepted s law (command.Insert t f keys) s₁ s₂ a₁ a₂ told₁ told₂ none free x y = absurd (true≢false none)
same_accepted s law (command.Adopt f keys) s₁ s₂ a₁ a₂ told₁ told₂ none free x y = absurd (true≢false none)
same_accepted s law (command.IndexBy t ps f bs rs ks) s₁ s₂ a₁ a₂ told₁ told₂ none free x y = absurd (true≢false none)
same_accepted s law (command.Split t i at) s₁ s₂ a₁ a₂ told₁ told₂ none free x y = absurd (true≢false none)
same_accepted s law c s₁ s₂ a₁ a₂ told₁ told₂ none free x y = by_told s s₁ s₂ a₁ a₂ told₁ told₂ (told s) x.0 y.0 x.1 y.1 (x.2 ∙ sym y.2)

pub one_outcome : OneOutcome
one_outcome s s₁ s₂ c a₁ a₂ told₁ told₂ law none g h = by (refusal_of s c) refl g h
  where
    answered : refusal_of s c ≡ None → (q : Option Answer) → Answers s c q a₁ told₁ s₁ → Answers s c q a₂ told₂ s₂ → Same s s₁ s₂ a₁ a₂ told₁ told₂
    answered free (Some q) x y = (x.answer_is ∙ sym y.answer_is, x.nobody_told ∙ sym y.nobody_told, x.same ∙ sym y.same)
    answered free None x y =
        let same = same_accepted s law c x.0 y.0 a₁ a₂ told₁ told₂ none free x.1 y.1 in
        (same.0, same.1, x.2 ∙ ap accepted_once same.2 ∙ sym y.2)

    by : (r : Option Refusal) → refusal_of s c ≡ r → Goes s c r a₁ told₁ s₁ → Goes s c r a₂ told₂ s₂ → Same s s₁ s₂ a₁ a₂ told₁ told₂
    by (Some r) e x y = (x.answer_is ∙ sym y.answer_is, x.nobody_told ∙ sym y.nobody_told, x.same ∙ sym y.same)
    by None e x y = answered e (query_answer s c) x y
