-- The delete of a record as a step.
use Rattle.gl_catalog.specs.Replies.{doing}
use Rattle.gl_graph.specs.Changes.{without_node}
use Rattle.gl_model.specs.State.{with_graph, counting}
use Rattle.std.specs.Prelude.{[]}
use Rattle.std.specs.Prelude.{◌≡◌, ℕ, ◌+◌, None, Ok}
use Rattle.std.proofs.Common.{refl, sym, ap, subst}
use Rattle.gl_modes.specs.declared.node.NodeId.{NodeId}
use Rattle.gl_model.specs.declared.txn.TxnId.{TxnId}
use Rattle.gl_model.specs.Calls.{deleted}
use Rattle.gl_table.specs.Table.{TableView, state_of as table_state}
use Rattle.gl_model.specs.Tellings.{told}
use Rattle.gl_steps.specs.declared.command.Command.TheVariants as command
use Rattle.gl_catalog.specs.declared.counters.Counters.{Counters}
use Rattle.gl_catalog.specs.Manager.{ManagerView, state_of}
use Rattle.gl_catalog.specs.Replies.{CallSteps, Notices, done}
use Rattle.gl_steps.specs.Tests.{refusal_of}
use Rattle.gl_catalog.proofs.Carried.{accepted_step}

-- no test refused, and the table took the record away
pub deleted_step : {counts : Counters} (table new : TableView) (k : ℕ) (v : ManagerView)
    → record { table = table; accepted = k; counters = counts } ≡ v → (t : TxnId) (r : NodeId) (told' : Notices)
    → refusal_of (state_of v) (command.Delete t r) ≡ None
    → table_state new ≡ deleted (table_state table) r → told'.items ≡ told (table_state table) (table_state new)
    → CallSteps (state_of v) (command.Delete t r) done (Ok told') (counting (k + 1) (table_state new))
deleted_step table new k v is t r told' free state tells =
    subst (λ (x : ManagerView). CallSteps (state_of x) (command.Delete t r) done (Ok told') (counting (k + 1) (table_state new))) is
    (accepted_step done (command.Delete t r) (counting k (table_state table)) told' (counting k (table_state new)) (counting (k + 1) (table_state new))
    (subst (λ (x : ManagerView). refusal_of (state_of x) (command.Delete t r) ≡ None) (sym is) free) refl (refl, tells, ap (counting k) state) refl)

-- the same of a record that was forgotten
pub forgotten_step : {counts : Counters} (table new : TableView) (k : ℕ) (v : ManagerView)
    → record { table = table; accepted = k; counters = counts } ≡ v → (r : NodeId)
    → refusal_of (state_of v) (command.Forget r) ≡ None
    → table_state new ≡ with_graph (table_state table) (without_node (table_state table).graph r)
    → CallSteps (state_of v) (command.Forget r) (doing []) (Ok tt) (counting (k + 1) (table_state new))
forgotten_step table new k v is r free state =
    subst (λ (x : ManagerView). CallSteps (state_of x) (command.Forget r) (doing []) (Ok tt) (counting (k + 1) (table_state new))) is
    (accepted_step (doing []) (command.Forget r) (counting k (table_state table)) tt (counting k (table_state new)) (counting (k + 1) (table_state new))
    (subst (λ (x : ManagerView). refusal_of (state_of x) (command.Forget r) ≡ None) (sym is) free) refl (refl, refl, ap (counting k) state) refl)
