-- A transaction splits or merges intervals that it holds in X: the state after it, and why it is refused.
use Rattle.std.specs.Prelude.{ℕ, not, List, [], ◌∷◌, ◌++◌, Option, if◌then◌else◌}
use Rattle.gl_modes.specs.declared.mode.Mode.TheVariants.{X}
use Rattle.gl_modes.specs.declared.node.NodeId.{NodeId}
use Rattle.gl_modes.specs.Nodes.{same_node}
use Rattle.gl_modes.specs.declared.refusal.Refusal.{Refusal}
use Rattle.gl_modes.specs.declared.refusal.Refusal.TheVariants as no
use Rattle.gl_graph.specs.Graph.{Graph}
use Rattle.gl_graph.specs.Refusals.{too_many_nodes, where_true, worn_births}
use Rattle.gl_model.specs.Calls.{active_on, departed, freed, holds_x, holds_x_on_all}
use Rattle.gl_model.specs.State.{State, with_grant}
use Rattle.gl_model.specs.declared.txn.TxnId.{TxnId}
use Rattle.gl_graph.specs.Splits.{bad_bound, has_no_next, next_interval, no_interval}

-- t split interval i, which gave this graph, and holds X on the new interval n; who waited for i is active again
abbrev pub split_by : State → ℕ → NodeId → Graph → NodeId → State
split_by s t i g n =
    with_grant (record s { graph = g; queue = λ q. if same_node q i then [] else s.queue q; txns = λ u. freed i (s.txns u) }) t n X

-- interval j was merged into the one before it, which gave this graph: it is gone with its grants and waits, and who waited for it is active again
abbrev pub merged_by : State → NodeId → Graph → State
merged_by s j g = departed s (λ q. same_node q j) g

-- a split needs X on the interval, and a bound inside it
abbrev pub split_tests : State → TxnId → NodeId → ℕ → List (Option Refusal)
split_tests s t i bound =
    worn_births s.graph ∷ active_on s t (i ∷ []) ++ where_true (no_interval s.graph i) no.BadParents
    ∷ where_true (not (holds_x s t.slot i)) no.NeedExclusive ∷ where_true (bad_bound s.graph i bound) no.BadKeys ∷ too_many_nodes s.graph 1 ∷ []

-- a merge needs X on the interval and on the next one of its index
abbrev pub merge_tests : State → TxnId → NodeId → List (Option Refusal)
merge_tests s t i =
    active_on s t (i ∷ []) ++ where_true (has_no_next s.graph i) no.BadParents
    ∷ where_true (not (holds_x_on_all s t.slot (i ∷ next_interval s.graph i ∷ []))) no.NeedExclusive ∷ []
