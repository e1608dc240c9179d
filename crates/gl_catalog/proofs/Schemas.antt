-- Nodes are dropped, and an index is made that its maker holds: their tests, one after the other, and the calls as steps.
use Rattle.std.specs.Prelude.{◌≡◌, ℕ, ◌+◌, ◌&&◌, ◌||◌, Bool, true, false, not, List, [], ◌∷◌, ◌++◌, length, Option, Some, None, Ok}
use Rattle.std.proofs.Common.{refl, rules, sym, ap, subst, ◌∙◌}
use Rattle.gl_modes.specs.declared.node.NodeId.{NodeId}
use Rattle.gl_modes.specs.declared.refusal.Refusal.{Refusal}
use Rattle.gl_modes.specs.declared.refusal.Refusal.TheVariants as no
use Rattle.gl_modes.proofs.Words.{and_both}
use Rattle.gl_modes.specs.Modes.{same_mode}
use Rattle.gl_modes.specs.declared.mode.Mode.{Mode}
use Rattle.gl_modes.specs.declared.mode.Mode.TheVariants.{NL, X}
use Rattle.gl_graph.proofs.Unrefused.{not_false, not_refused, or_no, test_fails}
use Rattle.gl_graph.specs.Graph.{Graph, shape_of}
use Rattle.gl_graph.specs.Shapes.{is_file_shape}
use Rattle.gl_graph.specs.Refusals.{bad_bounds, bad_index_place, births_worn, first_refusal, has_records, some_no_node, too_many_nodes, where_true}
use Rattle.gl_graph.proofs.FirstOf.{passed_then, refused_first}
use Rattle.gl_model.specs.declared.txn.TxnId.{TxnId}
use Rattle.gl_graph.specs.Over.{are_keyed}
use Rattle.gl_header.specs.Header.{holds, is_empty}
use Rattle.gl_model.specs.Calls.{commit_tests, dropped, first_not_ix, holds_child, holds_x_on_all, index_by_tests, locked_to_index, no_txn}
use Rattle.gl_model.specs.State.{State, counting, lives, members}
use Rattle.gl_model.specs.Tellings.{told}
use Rattle.gl_steps.specs.declared.command.Command.TheVariants as command
use Rattle.gl_steps.specs.Tests.{refusal_of}
use Rattle.gl_table.specs.Table.{TableView, state_of as table_state}
use Rattle.gl_catalog.specs.declared.counters.Counters.{Counters}
use Rattle.gl_catalog.specs.Manager.{ManagerView, state_of}
use Rattle.gl_catalog.specs.Replies.{CallSteps, Notices, done}
use Rattle.gl_catalog.proofs.Carried.{accepted_step}

-- the tests of an index's place
abbrev pub places : Graph → List NodeId → NodeId → List (Option Refusal)
places g ps f = some_no_node g (ps ++ f ∷ []) ∷ where_true (bad_index_place g ps f) no.BadParents ∷ []

-- its bounds and keys, and the room for its intervals
abbrev pub bounds : Graph → NodeId → List ℕ → List NodeId → List ℕ → List (Option Refusal)
bounds g f bs rs ks = where_true (bad_bounds g bs || not (are_keyed g f rs ks)) no.BadKeys ∷ too_many_nodes g (2 + length bs) ∷ []

-- the file has records and none is named, or t holds one
abbrev pub taken : State → ℕ → NodeId → List NodeId → Bool
taken s t f rs = (is_empty rs && has_records s.graph f) || holds_child s t f

module _ (s : State) (t : TxnId) (ps : List NodeId) (f : NodeId) (bs : List ℕ) (rs : List NodeId) (ks : List ℕ) where
  abbrev behind : List (Option Refusal)
  behind = where_true (not (holds_x_on_all s t.slot (locked_to_index s.graph f rs))) no.NeedExclusive ∷ first_not_ix (s.held t.slot) ps
      ∷ where_true (taken s t.slot f rs) no.FileInUse ∷ bounds s.graph f bs rs ks

  -- births are left, and the transaction is active
  module _ (births : births_worn s.graph ≡ false) (active : first_refusal (commit_tests s t) ≡ None) where
    asked : first_refusal (index_by_tests s t ps f bs rs ks) ≡ first_refusal (places s.graph ps f ++ behind)
    asked = ap (λ b. first_refusal (where_true b no.WornOut ∷ commit_tests s t ++ places s.graph ps f ++ behind)) births
        ∙ passed_then (commit_tests s t) (places s.graph ps f ++ behind) active

    pub place_refused : (r : Refusal) → first_refusal (places s.graph ps f) ≡ Some r → first_refusal (index_by_tests s t ps f bs rs ks) ≡ Some r
    place_refused r h = asked ∙ refused_first (places s.graph ps f) behind r h

    module _ (placed : first_refusal (places s.graph ps f) ≡ None) where
      located : first_refusal (index_by_tests s t ps f bs rs ks) ≡ first_refusal behind
      located = asked ∙ passed_then (places s.graph ps f) behind placed

      pub exclusive_refused : holds_x_on_all s t.slot (locked_to_index s.graph f rs) ≡ false
          → first_refusal (index_by_tests s t ps f bs rs ks) ≡ Some no.NeedExclusive
      exclusive_refused h =
          located ∙ ap (λ b. first_refusal (where_true (not b) no.NeedExclusive ∷ first_not_ix (s.held t.slot) ps
          ∷ where_true (taken s t.slot f rs) no.FileInUse ∷ bounds s.graph f bs rs ks)) h

      module _ (h : holds_x_on_all s t.slot (locked_to_index s.graph f rs) ≡ true) where
        locked : first_refusal (index_by_tests s t ps f bs rs ks)
            ≡ first_refusal (first_not_ix (s.held t.slot) ps ∷ where_true (taken s t.slot f rs) no.FileInUse ∷ bounds s.graph f bs rs ks)
        locked = located ∙ ap (λ b. first_refusal (where_true (not b) no.NeedExclusive ∷ first_not_ix (s.held t.slot) ps
            ∷ where_true (taken s t.slot f rs) no.FileInUse ∷ bounds s.graph f bs rs ks)) h

        pub rule_refused : (r : Refusal) → first_not_ix (s.held t.slot) ps ≡ Some r → first_refusal (index_by_tests s t ps f bs rs ks) ≡ Some r
        rule_refused r e = locked ∙ ap (λ o. first_refusal (o ∷ where_true (taken s t.slot f rs) no.FileInUse ∷ bounds s.graph f bs rs ks)) e

        pub taken_refused : first_not_ix (s.held t.slot) ps ≡ None → taken s t.slot f rs ≡ true
            → first_refusal (index_by_tests s t ps f bs rs ks) ≡ Some no.FileInUse
        taken_refused rule e =
            locked ∙ ap (λ o. first_refusal (o ∷ where_true (taken s t.slot f rs) no.FileInUse ∷ bounds s.graph f bs rs ks)) rule
            ∙ ap (λ b. first_refusal (where_true b no.FileInUse ∷ bounds s.graph f bs rs ks)) e

        pub bounds_left : first_not_ix (s.held t.slot) ps ≡ None → taken s t.slot f rs ≡ false
            → first_refusal (index_by_tests s t ps f bs rs ks) ≡ first_refusal (bounds s.graph f bs rs ks)
        bounds_left rule free =
            locked ∙ ap (λ o. first_refusal (o ∷ where_true (taken s t.slot f rs) no.FileInUse ∷ bounds s.graph f bs rs ks)) rule
            ∙ ap (λ b. first_refusal (where_true b no.FileInUse ∷ bounds s.graph f bs rs ks)) free

-- a transaction that may act lives
pub acting_lives : (s : State) (t : TxnId) → first_refusal (commit_tests s t) ≡ None → lives s t ≡ true
acting_lives s t h = not_false (lives s t) (test_fails (not (lives s t)) no.NoSuchTxn (not_refused (no_txn s t) _ h).0)

-- the file of an index that has its place
pub placed_file : (g : Graph) (ps : List NodeId) (f : NodeId) → first_refusal (places g ps f) ≡ None → is_file_shape (shape_of g f) ≡ true
placed_file g ps f h =
    let a = not_refused (some_no_node g (ps ++ f ∷ [])) _ h in
    let b = not_refused (where_true (bad_index_place g ps f) no.BadParents) [] a.1 in
    not_false _ (or_no _ _ (or_no _ _ (test_fails _ _ b.0)).0).1

x_held : (m : Mode) → same_mode m X ≡ true → not (same_mode m NL) ≡ true
x_held m h = search rules

-- a transaction with the locks for an index of a file holds the file
pub file_held : (s : State) (t : ℕ) (f : NodeId) (rs : List NodeId) → holds_x_on_all s t (locked_to_index s.graph f rs) ≡ true
    → holds (members s f) t ≡ true
file_held s t f [] h = x_held (s.held t f) (and_both _ _ h).0
file_held s t f (r ∷ rs) h = x_held (s.held t f) (and_both _ _ h).0

-- no test refused, and the table dropped the node
pub dropped_step : {counts : Counters} (table new : TableView) (k : ℕ) (v : ManagerView)
    → record { table = table; accepted = k; counters = counts } ≡ v → (t : TxnId) (n : NodeId) (told' : Notices)
    → refusal_of (state_of v) (command.Drop t n) ≡ None
    → table_state new ≡ dropped (table_state table) n → told'.items ≡ told (table_state table) (table_state new)
    → CallSteps (state_of v) (command.Drop t n) done (Ok told') (counting (k + 1) (table_state new))
dropped_step table new k v is t n told' free state tells =
    subst (λ (x : ManagerView). CallSteps (state_of x) (command.Drop t n) done (Ok told') (counting (k + 1) (table_state new))) is
    (accepted_step done (command.Drop t n) (counting k (table_state table)) told' (counting k (table_state new)) (counting (k + 1) (table_state new))
    (subst (λ (x : ManagerView). refusal_of (state_of x) (command.Drop t n) ≡ None) (sym is) free) refl (refl, tells, ap (counting k) state) refl)
