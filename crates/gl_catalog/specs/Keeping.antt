-- A transaction commits, and another begins in its slot that keeps its first locks: a rollback, and then a renewal or a commit.
use Rattle.std.specs.Prelude.{◌≡◌, ℕ, ◌+◌, List, [], ◌∷◌, ◌++◌, map, Option, Some, None}
use Rattle.std.specs.List.{All}
use Rattle.gl_modes.specs.declared.refusal.Refusal.{Refusal}
use Rattle.gl_graph.specs.Refusals.{first_refusal}
use Rattle.gl_model.specs.declared.txn.TxnId.{TxnId}
use Rattle.gl_model.specs.Calls.{commit_tests}
use Rattle.gl_model.specs.Tellings.{Told, told}
use Rattle.gl_steps.specs.declared.command.Answer.{Answer}
use Rattle.gl_steps.specs.declared.command.Answer.TheVariants as answer
use Rattle.gl_steps.specs.declared.command.Command.{Command}
use Rattle.gl_steps.specs.declared.command.Command.TheVariants as command
use Rattle.gl_steps.specs.Step.{Run}
use Rattle.gl_table.specs.Keeping.{CommitsKeeping}
use Rattle.gl_table.specs.Table.{KeepsOrders}
use Rattle.gl_catalog.specs.Counters.{with_notices}
use Rattle.gl_catalog.specs.Manager.{ManagerView, state_of}
use Rattle.gl_catalog.specs.Paths.{LeavesAllBut}
use Rattle.gl_catalog.specs.Replies.{Says, doing}
use Rattle.gl_catalog.specs.Savepoints.{count_since, worn_for}

-- why it is refused: the transaction is not active, or a command cannot be counted for each lock since the mark and for one more
abbrev pub keeping_tests : ManagerView → TxnId → ℕ → List (Option Refusal)
keeping_tests m t keep = commit_tests (state_of m) t ++ worn_for (state_of m) (count_since m t.slot keep + 1) ∷ []

-- the last command: the transaction is renewed, or ends
abbrev pub last_command : TxnId → ℕ → Option TxnId → Command
last_command t since (Some u) = command.Renew t since
last_command t since None = command.Commit t

-- what it answers
abbrev pub last_answer : Option TxnId → Answer
last_answer (Some u) = answer.Begun u
last_answer None = answer.Done

-- t passes the tests, rolls back to its first locks and is renewed or ends, by a command for each release and one more; these together tell this, are
-- counted, and leave others what a command of t leaves them
pub record CompletesKeeping (t : TxnId) (keep since : ℕ) (m : ManagerView) (next : Option TxnId) (told' : Told) (m' : ManagerView) : Type 0 where
  pub tests : first_refusal (keeping_tests m t keep) ≡ None
  pub released : ℕ
  pub keeps : CommitsKeeping t keep since m.table released next m'.table
  pub replies : List Says
  pub last : Told
  pub run : Run (state_of m) (map (λ n. command.Unlock t n) keeps.nodes ++ last_command t since next ∷ []) (replies ++ (last_answer next, last) ∷ [])
      (state_of m')
  pub done : All (λ (r : Says). r.0 ≡ answer.Done) replies
  pub accepted : m'.accepted ≡ m.accepted + released + 1
  pub tells : told' ≡ told (state_of m) (state_of m')
  pub counters : m'.counters ≡ with_notices told' m.counters
  pub deadlock : m'.table.deadlock ≡ m.table.deadlock
  pub orders : KeepsOrders m.table m'.table
  pub others : LeavesAllBut t (state_of m) (doing told' tt) (state_of m')
