-- What a call of the table answers, as a step of the manager that made it.
use Rattle.std.specs.Prelude.{◌≡◌, ℕ, ◌+◌, Bool, true, false, not, ◌||◌, List, ◌∷◌, Option, None, Ok, Err}
use Rattle.std.proofs.Common.{refl, sym, subst}
use Rattle.gl_modes.specs.declared.refusal.Refusal.{Refusal}
use Rattle.gl_graph.specs.Refusals.{Refuses, first_refusal, verdict}
use Rattle.gl_model.specs.Calls.{RefusesOnly}
use Rattle.gl_table.specs.Table.{TableView, state_of as table_state}
use Rattle.gl_steps.specs.declared.command.Command.{Command}
use Rattle.gl_catalog.specs.declared.counters.Counters.{Counters}
use Rattle.gl_model.specs.State.{counting}
use Rattle.gl_catalog.specs.Manager.{ManagerView, state_of}
use Rattle.gl_catalog.specs.Replies.{CallSteps, Says}
use Rattle.gl_steps.specs.Step.{Accepts, query_answer}
use Rattle.gl_steps.specs.Tests.{lists_memory, tests_of, worn}
use Rattle.gl_catalog.proofs.Carried.{err_or_memory_step, err_step, ok_step, ok_step_only, worn_step}

module _ {A : Type 0} (says : A → Says) (c : Command) {counts : Counters} (table : TableView) (k : ℕ) (v : ManagerView)
    (is : record { table = table; accepted = k; counters = counts } ≡ v) (tests : List (Option Refusal))
    (are : tests_of (counting k (table_state table)) c ≡ worn (counting k (table_state table)) ∷ tests) where
  abbrev pub Room : Type 0
  Room = Ok tt ≡ verdict (worn (state_of v))

  -- the count is full
  pub managed_worn : (r : Refusal) → Err r ≡ verdict (worn (state_of v)) → CallSteps (state_of v) c says (Err r) (state_of v)
  managed_worn r full = by v is full
    where
      by : (w : ManagerView) → record { table = table; accepted = k; counters = counts } ≡ w → Err r ≡ verdict (worn (state_of w))
          → CallSteps (state_of w) c says (Err r) (state_of w)
      by w e full' = subst (λ (x : ManagerView). CallSteps (state_of x) c says (Err r) (state_of x)) e
          (worn_step says c k (table_state table) tests are r (subst (λ (x : ManagerView). Err r ≡ verdict (worn (state_of x))) (sym e) full'))

  room : Room → Ok tt ≡ verdict (worn (counting k (table_state table)))
  room free = subst (λ (x : ManagerView). Ok tt ≡ verdict (worn (state_of x))) (sym is) free

  -- the table refused, and is as it was
  pub managed_err : (r : Refusal) (table' : TableView) → Room → RefusesOnly {A = A} (first_refusal tests) (Err r) → table' ≡ table
      → CallSteps (state_of v) c says (Err r) (counting k (table_state table'))
  managed_err r table' free refuses same =
      subst (λ (x : ManagerView). CallSteps (state_of x) c says (Err r) (counting k (table_state table'))) is
      (subst (λ (x : TableView). CallSteps (counting k (table_state table)) c says (Err r) (counting k (table_state x))) (sym same)
      (err_step says c k (table_state table) tests are r (room free) refuses))

  -- the same, maybe for lack of memory
  pub managed_err_or_memory : (r : Refusal) (table' : TableView) → Room
      → (first_refusal tests ≡ None → lists_memory (counting k (table_state table)) c ≡ true) → Refuses {T = A} (first_refusal tests) (Err r) → table' ≡ table
      → CallSteps (state_of v) c says (Err r) (counting k (table_state table'))
  managed_err_or_memory r table' free lists refuses same =
      subst (λ (x : ManagerView). CallSteps (state_of x) c says (Err r) (counting k (table_state table'))) is
      (subst (λ (x : TableView). CallSteps (counting k (table_state table)) c says (Err r) (counting k (table_state x))) (sym same)
      (err_or_memory_step says c k (table_state table) tests are r (room free) lists refuses))

  -- the table's call succeeded
  pub managed_ok : (x : A) (table' : TableView) → Room → Refuses {T = A} (first_refusal tests) (Ok x) → query_answer (counting k (table_state table)) c ≡ None
      → Accepts (counting k (table_state table)) c (says x).0 (says x).1 (counting k (table_state table'))
      → CallSteps (state_of v) c says (Ok x) (counting (k + 1) (table_state table'))
  managed_ok x table' free refuses none acc =
      subst (λ (w : ManagerView). CallSteps (state_of w) c says (Ok x) (counting (k + 1) (table_state table'))) is
      (ok_step says c k (table_state table) tests are x (table_state table') (room free) refuses none acc)

  -- the same of a call that never lacks memory
  pub managed_ok_only : (x : A) (table' : TableView) → Room → RefusesOnly {A = A} (first_refusal tests) (Ok x)
      → query_answer (counting k (table_state table)) c ≡ None
      → Accepts (counting k (table_state table)) c (says x).0 (says x).1 (counting k (table_state table'))
      → CallSteps (state_of v) c says (Ok x) (counting (k + 1) (table_state table'))
  managed_ok_only x table' free refuses none acc =
      subst (λ (w : ManagerView). CallSteps (state_of w) c says (Ok x) (counting (k + 1) (table_state table'))) is
      (ok_step_only says c k (table_state table) tests are x (table_state table') (room free) refuses none acc)

pub not_both : (a b : Bool) → (b ≡ true → a ≡ true → ⊥) → (not a || not b) ≡ true
not_both true true never = absurd (never refl refl)
not_both true false never = refl
not_both false b never = refl

pub never_true : (a : Bool) → (a ≡ true → ⊥) → not a ≡ true
never_true true never = absurd (never refl)
never_true false never = refl
