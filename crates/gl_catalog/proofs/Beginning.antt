-- A transaction begins, by either command: what the table answers is a step of the manager.
use Rattle.std.specs.Prelude.{◌≡◌, ℕ, ◌+◌, true, [], ◌∷◌, Some, None, Ok, Err}
use Rattle.std.proofs.Common.{ap, refl, sym, ◌∙◌}
use Rattle.gl_modes.specs.declared.refusal.Refusal.{Refusal}
use Rattle.gl_graph.specs.Refusals.{Refuses, first_refusal, verdict}
use Rattle.gl_model.specs.declared.txn.TxnId.{TxnId}
use Rattle.gl_model.specs.Calls.{begin_tests, begun, begun_again, free_slot}
use Rattle.gl_model.specs.State.{State, counting}
use Rattle.gl_table.specs.Table.{TableView, state_of as table_state}
use Rattle.gl_steps.specs.declared.command.Answer.TheVariants as answer
use Rattle.gl_steps.specs.declared.command.Command.{Command}
use Rattle.gl_steps.specs.declared.command.Command.TheVariants as command
use Rattle.gl_steps.specs.Step.{Accepts, query_answer}
use Rattle.gl_steps.specs.Tests.{lists_memory, tests_of, worn}
use Rattle.gl_catalog.specs.declared.counters.Counters.{Counters}
use Rattle.gl_catalog.specs.Manager.{ManagerView, state_of}
use Rattle.gl_catalog.specs.Replies.{CallSteps, began}
use Rattle.gl_catalog.proofs.Managed.{managed_err_or_memory, managed_ok}

-- a command by which a transaction begins, and leaves this
pub record IsBegin (c : Command) (leaves : State → ℕ → State) : Type 0 where
  pub tests : (s : State) → tests_of s c ≡ worn s ∷ begin_tests s
  pub memory : (s : State) → lists_memory s c ≡ true
  pub no_query : (s : State) → query_answer s c ≡ None
  pub counted : (k : ℕ) (s : State) (t : ℕ) → counting k (leaves s t) ≡ leaves (counting k s) t
  pub accepts : (s : State) (t : ℕ) → free_slot s ≡ Some t
      → Accepts s c (answer.Begun (record { slot = t; age = s.begins + 1 })) [] (leaves s t)

pub is_begin : IsBegin command.Begin begun
is_begin = record {
  tests = λ s. refl;
  memory = λ s. refl;
  no_query = λ s. refl;
  counted = λ k s t. refl;
  accepts = λ s t free. (t, free, refl, refl, refl);
}

pub is_begin_again : (since : ℕ) → IsBegin (command.BeginAgain since) (λ s t. begun_again s t since)
is_begin_again since = record {
  tests = λ s. refl;
  memory = λ s. refl;
  no_query = λ s. refl;
  counted = λ k s t. refl;
  accepts = λ s t free. (t, free, refl, refl, refl);
}

module _ {c : Command} {leaves : State → ℕ → State} (begins : IsBegin c leaves) {counts : Counters} (table : TableView) (k : ℕ) (v : ManagerView)
    (is : record { table = table; accepted = k; counters = counts } ≡ v) (free : Ok tt ≡ verdict (worn (state_of v))) (table' : TableView) where
  pub begin_refused : (r : Refusal) → Refuses {T = TxnId} (first_refusal (begin_tests (table_state table))) (Err r) → table' ≡ table
      → CallSteps (state_of v) c began (Err r) (counting k (table_state table'))
  begin_refused r refuses same =
      managed_err_or_memory began c table k v is (begin_tests (table_state table)) (begins.tests (counting k (table_state table))) r table' free
      (λ _. begins.memory (counting k (table_state table))) refuses same

  pub begin_goes : (t : TxnId) → Refuses {T = TxnId} (first_refusal (begin_tests (table_state table))) (Ok t)
      → (free_slot (table_state table) ≡ Some t.slot) × (t.age ≡ (table_state table).begins + 1) × (table_state table' ≡ leaves (table_state table) t.slot)
      → CallSteps (state_of v) c began (Ok t) (counting (k + 1) (table_state table'))
  begin_goes t refuses went =
      managed_ok began c table k v is (begin_tests (table_state table)) (begins.tests (counting k (table_state table))) t table' free refuses
      (begins.no_query (counting k (table_state table))) accepted
    where
      s : State
      s = counting k (table_state table)

      named : answer.Begun (record { slot = t.slot; age = s.begins + 1 }) ≡ answer.Begun t
      named = ap (λ (age : ℕ). answer.Begun (record { slot = t.slot; age = age })) (sym went.1)

      accepted : Accepts s c (answer.Begun t) [] (counting k (table_state table'))
      accepted = coe 0 1 (i. Accepts s c (named i) [] (sym (ap (counting k) went.2 ∙ begins.counted k (table_state table) t.slot) i))
          (begins.accepts s t.slot went.0)
