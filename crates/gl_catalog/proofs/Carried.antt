-- What the table answers is a step of the manager.
use Rattle.std.specs.Prelude.{◌≡◌, ℕ, ◌+◌, true, List, [], ◌∷◌, Option, Some, None, Ok, Err, is_none, ◌&&◌, ◌||◌}
use Rattle.std.proofs.Common.{refl, sym, ap, ap₂, subst, ◌∙◌, inl, inr}
use Rattle.gl_modes.proofs.Words.{no}
use Rattle.gl_modes.specs.declared.refusal.Refusal.{Refusal}
use Rattle.gl_modes.specs.declared.refusal.Refusal.TheVariants as refusal
use Rattle.gl_graph.specs.Refusals.{Refuses, first_refusal, verdict}
use Rattle.gl_graph.proofs.Unrefused.{verdict_ok}
use Rattle.gl_model.specs.Calls.{RefusesOnly, accepted_once}
use Rattle.gl_model.specs.State.{State, counting}
use Rattle.gl_steps.specs.declared.command.Answer.TheVariants as answer
use Rattle.gl_steps.specs.declared.command.Command.{Command}
use Rattle.gl_catalog.specs.Replies.{CallSteps, Says}
use Rattle.gl_steps.specs.Step.{Accepts, Answers, Goes, query_answer}
use Rattle.gl_steps.specs.Tests.{is_cycle, lists_memory, may_lack_memory, refusal_of, tests_of, worn}

ok_err : {A : Type 0} {x : A} {r : Refusal} → Ok x ≡ Err r → ⊥
ok_err e = cc

err_ok : {A : Type 0} {x : A} {r : Refusal} → Err r ≡ Ok x → ⊥
err_ok e = cc

module _ {A : Type 0} (says : A → Says) (c : Command) where
  -- a refusal that the model gives
  pub refused_step : (s : State) (r : Refusal) → refusal_of s c ≡ Some r → CallSteps s c says (Err r) s
  refused_step s r e = inl (subst (λ o. Goes s c o (answer.Refused r) [] s) (sym e) (record { answer_is = refl; nobody_told = refl; same = refl }))

  -- lack of memory, if it is permitted
  pub memory_step : (s : State) (r : Refusal) → may_lack_memory s c ≡ true → r ≡ refusal.NoMemory → CallSteps s c says (Err r) s
  memory_step s r may e = inr (may, record { answer_is = ap answer.Refused e; nobody_told = refl; same = refl })

  -- a command that succeeds, and is counted
  pub accepted_step : (s : State) (x : A) (next s' : State) → refusal_of s c ≡ None → query_answer s c ≡ None
      → Accepts s c (says x).0 (says x).1 next → s' ≡ accepted_once next → CallSteps s c says (Ok x) s'
  accepted_step s x next s' free none acc is =
      inl (subst (λ o. Goes s c o (says x).0 (says x).1 s') (sym free) (subst (λ q. Answers s c q (says x).0 (says x).1 s') (sym none) (next, acc, is)))

  -- the same for the calls of the table: the count is tested first, and then what the table tests
  module _ (k : ℕ) (s : State) (tests : List (Option Refusal)) (are : tests_of (counting k s) c ≡ worn (counting k s) ∷ tests) where
    pub worn_step : (r : Refusal) → Err r ≡ verdict (worn (counting k s)) → CallSteps (counting k s) c says (Err r) (counting k s)
    worn_step r full = by (worn (counting k s)) full (ap first_refusal are)
      where
        by : (o : Option Refusal) → Err r ≡ verdict o → refusal_of (counting k s) c ≡ first_refusal (o ∷ tests)
            → CallSteps (counting k s) c says (Err r) (counting k s)
        by None full' e = absurd (err_ok full')
        by (Some x) full' e = refused_step (counting k s) r (e ∙ cc)

    -- the count is not full, so that the tests of the table decide
    rest_decides : Ok tt ≡ verdict (worn (counting k s)) → refusal_of (counting k s) c ≡ first_refusal tests
    rest_decides room = ap first_refusal are ∙ ap (λ o. first_refusal (o ∷ tests)) (verdict_ok _ tt room)

    -- the table refuses, and never for lack of memory
    pub err_step : (r : Refusal) → Ok tt ≡ verdict (worn (counting k s)) → RefusesOnly {A = A} (first_refusal tests) (Err r)
        → CallSteps (counting k s) c says (Err r) (counting k s)
    err_step r room refuses = by (first_refusal tests) refl refuses
      where
        by : (o : Option Refusal) → first_refusal tests ≡ o → RefusesOnly {A = A} o (Err r) → CallSteps (counting k s) c says (Err r) (counting k s)
        by None e is = absurd (no is)
        by (Some x) e is = refused_step (counting k s) r (rest_decides room ∙ e ∙ cc)

    -- the table refuses, maybe for lack of memory
    pub err_or_memory_step : (r : Refusal) → Ok tt ≡ verdict (worn (counting k s))
        → (first_refusal tests ≡ None → lists_memory (counting k s) c ≡ true) → Refuses {T = A} (first_refusal tests) (Err r)
        → CallSteps (counting k s) c says (Err r) (counting k s)
    err_or_memory_step r room lists refuses = by (first_refusal tests) refl refuses
      where
        by : (o : Option Refusal) → first_refusal tests ≡ o → Refuses {T = A} o (Err r) → CallSteps (counting k s) c says (Err r) (counting k s)
        by None e is = memory_step (counting k s) r (ap₂ (λ l o. l && (is_none o || is_cycle o)) (lists e) (rest_decides room ∙ e)) is
        by (Some x) e is = refused_step (counting k s) r (rest_decides room ∙ e ∙ cc)

    -- the table's call succeeds
    pub ok_step : (x : A) (s' : State) → Ok tt ≡ verdict (worn (counting k s)) → Refuses {T = A} (first_refusal tests) (Ok x)
        → query_answer (counting k s) c ≡ None
        → Accepts (counting k s) c (says x).0 (says x).1 (counting k s') → CallSteps (counting k s) c says (Ok x) (counting (k + 1) s')
    ok_step x s' room refuses none acc = by (first_refusal tests) refl refuses
      where
        by : (o : Option Refusal) → first_refusal tests ≡ o → Refuses {T = A} o (Ok x) → CallSteps (counting k s) c says (Ok x) (counting (k + 1) s')
        by None e is = accepted_step (counting k s) x (counting k s') (counting (k + 1) s') (rest_decides room ∙ e) none acc refl
        by (Some y) e is = absurd (ok_err is)

    -- the table's call succeeds, and never lacks memory
    pub ok_step_only : (x : A) (s' : State) → Ok tt ≡ verdict (worn (counting k s)) → RefusesOnly {A = A} (first_refusal tests) (Ok x)
        → query_answer (counting k s) c ≡ None
        → Accepts (counting k s) c (says x).0 (says x).1 (counting k s') → CallSteps (counting k s) c says (Ok x) (counting (k + 1) s')
    ok_step_only x s' room refuses = ok_step x s' room (by (first_refusal tests) refuses)
      where
        by : (o : Option Refusal) → RefusesOnly {A = A} o (Ok x) → Refuses {T = A} o (Ok x)
        by None is = tt
        by (Some y) is = is
