-- A transaction commits, and another begins in its slot that keeps its first locks.
use Rattle.std.specs.Prelude.{◌≡◌, ◌≢◌, ◌+◌, ℕ, List, length, Option, None, Some, is_some, true}
use Rattle.gl_modes.specs.declared.node.NodeId.{NodeId}
use Rattle.gl_graph.specs.Refusals.{first_refusal}
use Rattle.gl_model.specs.declared.txn.TxnId.{TxnId}
use Rattle.gl_model.specs.Calls.{GoesBack, begun_again, released, renew_tests}
use Rattle.gl_model.specs.State.{State}
use Rattle.gl_table.specs.Table.{TableView, nodes_of, state_of}

-- t is renewed with all its locks, or, if that is refused, it ends
abbrev pub RenewsOrEnds : TxnId → ℕ → State → Option TxnId → State → Type 0
RenewsOrEnds t since s (Some u) s' =
    (first_refusal (renew_tests s t) ≡ None) × (u ≡ record { slot = t.slot; age = s.begins + 1 }) × (s' ≡ begun_again s t.slot since)
RenewsOrEnds t since s None s' = (first_refusal (renew_tests s t) ≢ None) × (s' ≡ released s t.slot)

-- t rolls back to its first locks, as many as `keep`, by so many releases, and is renewed with all that it then has, or ends
pub record CommitsKeeping (t : TxnId) (keep since : ℕ) (v : TableView) (k : ℕ) (next : Option TxnId) (v' : TableView) : Type 0 where
  pub mid : State
  pub nodes : List NodeId
  pub count : k ≡ length nodes
  pub order : List NodeId
  pub back : GoesBack (state_of v) t.slot keep (nodes_of v t.slot) nodes order mid
  pub renews : RenewsOrEnds t since mid next (state_of v')
  pub listed : is_some next ≡ true → nodes_of v' t.slot ≡ order
