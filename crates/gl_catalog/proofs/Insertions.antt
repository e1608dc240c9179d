-- A new record: what its tests say, one after the other.
use Rattle.std.specs.Prelude.{◌≡◌, ℕ, ◌==◌, false, not, List, [], ◌∷◌, ◌++◌, length, Option, Some, None, Ok, Err}
use Rattle.std.proofs.Common.{refl, sym, ap, ◌∙◌}
use Rattle.gl_modes.proofs.Words.{no as never}
use Rattle.gl_modes.specs.declared.node.NodeId.{NodeId}
use Rattle.gl_modes.specs.declared.refusal.Refusal.{Refusal}
use Rattle.gl_modes.specs.declared.refusal.Refusal.TheVariants as no
use Rattle.gl_graph.specs.Graph.{indexes_of, record_parents, shape_of}
use Rattle.gl_graph.specs.Refusals.{births_worn, first_refusal, record_refusal, some_no_node, too_many_nodes, verdict, where_true, worn_births}
use Rattle.gl_graph.specs.Shapes.{is_file_shape}
use Rattle.gl_graph.proofs.FirstOf.{refused_first}
use Rattle.gl_graph.proofs.Unrefused.{not_refused}
use Rattle.gl_model.specs.declared.txn.TxnId.{TxnId}
use Rattle.gl_model.specs.Calls.{IsActing, RefusesOnly, commit_tests, condemned_test, first_not_ix, no_txn, waiting_test}
use Rattle.gl_model.specs.State.{State, status_of}
use Rattle.gl_table.proofs.calls.Locking.{test_refused}
use Rattle.gl_steps.specs.Tests.{insert_tests, record_asks}
use Rattle.gl_steps.proofs.NotRefused.{active_is, txn_lives}

module _ (s : State) (t : TxnId) (f : NodeId) (keys : List ℕ) where
  -- what is tested of the record, after the births and the transaction
  abbrev kinds : List (Option Refusal)
  kinds = some_no_node s.graph (f ∷ []) ∷ where_true (not (is_file_shape (shape_of s.graph f))) no.BadParents
      ∷ where_true (not (length keys == length (indexes_of s.graph f))) no.BadKeys ∷ []

  -- births are left, and the transaction is not active
  pub inactive_refused : births_worn s.graph ≡ false → (r : Refusal) → Err r ≡ verdict (first_refusal (commit_tests s t))
      → Err r ≡ verdict (first_refusal (record_asks s t f keys))
  inactive_refused births r h =
      h ∙ ap verdict (test_refused _ r h
      ∙ sym (ap (λ b. first_refusal (where_true b no.WornOut ∷ commit_tests s t ++ kinds)) births
      ∙ refused_first (commit_tests s t) kinds r (test_refused _ r h)))

  -- what refuses the record, refuses the insert
  pub record_refused : (r : Refusal) → Err r ≡ verdict (first_refusal (record_asks s t f keys)) → first_refusal (insert_tests s t f keys) ≡ Some r
  record_refused r h = refused_first (record_asks s t f keys)
      (first_not_ix (s.held t.slot) (record_parents s.graph f keys) ∷ too_many_nodes s.graph 1 ∷ []) r (test_refused _ r h)

-- the transaction may insert the record, if memory suffices
pub record MayInsert (s : State) (t : TxnId) (f : NodeId) (keys : List ℕ) : Type 0 where
  pub acting : IsActing s t
  pub free : record_refusal s.graph f keys ≡ None
  pub writable : first_not_ix (s.held t.slot) (record_parents s.graph f keys) ≡ None

pub may_insert : (s : State) (t : TxnId) (f : NodeId) (keys : List ℕ) → first_refusal (insert_tests s t f keys) ≡ None → MayInsert s t f keys
may_insert s t f keys h =
    let births = not_refused (worn_births s.graph) _ h in
    let names = not_refused (no_txn s t) _ births.1 in
    let goes = not_refused (waiting_test (status_of s t.slot)) _ names.1 in
    let stands = not_refused (condemned_test (status_of s t.slot)) _ goes.1 in
    let node = not_refused (some_no_node s.graph (f ∷ [])) _ stands.1 in
    let file = not_refused (where_true (not (is_file_shape (shape_of s.graph f))) no.BadParents) _ node.1 in
    let each = not_refused (where_true (not (length keys == length (indexes_of s.graph f))) no.BadKeys) _ file.1 in
    let rule = not_refused (first_not_ix (s.held t.slot) (record_parents s.graph f keys)) _ each.1 in
    let room = not_refused (too_many_nodes s.graph 1) [] rule.1 in
    record {
      acting = record { lives = txn_lives s t names.0; active = active_is s t names.0 goes.0 stands.0 };
      free = λ i. first_refusal (births.0 i ∷ node.0 i ∷ file.0 i ∷ each.0 i ∷ room.0 i ∷ []);
      writable = rule.0;
    }

-- a call that refuses only what its tests refuse, and succeeds, was refused by none
pub goes_none : {A : Type 0} (o : Option Refusal) (x : A) → RefusesOnly o (Ok x) → o ≡ None
goes_none None x h = refl
goes_none (Some r) x h = absurd (cc)

-- and one that is refused, was refused by them
pub refused_so : (A : Type 0) (o : Option Refusal) (r : Refusal) → RefusesOnly {A = A} o (Err r) → o ≡ Some r
refused_so A None r h = absurd (never h)
refused_so A (Some x) r h = let same : r ≡ x = cc in ap Some (sym same)
