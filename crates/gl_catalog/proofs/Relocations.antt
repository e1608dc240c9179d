-- A node is given other parents: what its tests say, and what it leaves.
use Rattle.std.specs.Prelude.{◌≡◌, ◌⊎◌, ℕ, ◌+◌, Bool, true, false, not, ◌&&◌, ◌||◌, List, [], ◌∷◌, Some, None, Ok, Err, is_none, if◌then◌else◌}
use Rattle.std.proofs.Common.{refl, ap, ◌∙◌, inl, inr}
use denote.Bor.{Bor}
use Rattle.gl_modes.specs.declared.node.NodeId.{NodeId}
use Rattle.gl_modes.specs.declared.refusal.Refusal.{Refusal}
use Rattle.gl_modes.specs.declared.refusal.Refusal.TheVariants as no
use Rattle.gl_graph.specs.Changes.{with_parents}
use Rattle.gl_graph.specs.Graph.{Graph, parents_of, node_count, shape_of}
use Rattle.gl_graph.specs.Refusals.{bad_parents, first_cycle, first_refusal, some_no_node, verdict, where_true}
use Rattle.gl_graph.specs.Routes.{is_at_or_below}
use Rattle.gl_graph.specs.Shapes.{is_movable_shape, least_parents}
use Rattle.gl_graph.proofs.Unrefused.{inner_parents, not_false, not_refused, or_no, test_fails, verdict_ok}
use Rattle.gl_model.specs.declared.txn.TxnId.{TxnId}
use Rattle.gl_model.specs.Calls.{CanMove, IsActing, moved_to, condemned_test, need_exclusive, need_new_parents, no_txn, some_given, waiting_test}
use Rattle.gl_model.specs.State.{State, status_of, counting}
use Rattle.gl_model.specs.Tellings.{told}
use Rattle.gl_table.proofs.calls.Locking.{test_refused}
use Rattle.gl_steps.specs.declared.command.Command.TheVariants as command
use Rattle.gl_catalog.specs.Replies.{CallSteps, Notices, done}
use Rattle.gl_steps.specs.Tests.{is_cycle, move_asks, refusal_of, worn}
use Rattle.gl_catalog.proofs.Carried.{accepted_step, memory_step, refused_step}
use Rattle.gl_graph.proofs.FirstOf.{alone, passed_then, refused_first}
use Rattle.gl_steps.proofs.NotRefused.{active_is, txn_lives}

-- the transaction may give the node these parents, if no cycle is closed
pub record MayRegraft (s : State) (t : TxnId) (n : NodeId) (ps : List NodeId) : Type 0 where
  pub acting : IsActing s t
  pub allowed : CanMove s t.slot n ps

-- what refuses for a closed cycle refuses with `Cycle`
cycle_at_most : (g : Graph) (n : NodeId) (ps : List NodeId) → (is_none (first_cycle g n ps) || is_cycle (first_cycle g n ps)) ≡ true
cycle_at_most g n [] = refl
cycle_at_most g n (p ∷ ps) = by (is_at_or_below (node_count g) g n p) (cycle_at_most g n ps)
  where
    by : (b : Bool) → (is_none (first_cycle g n ps) || is_cycle (first_cycle g n ps)) ≡ true
        → (is_none (if b then Some (no.Cycle p) else first_cycle g n ps) || is_cycle (if b then Some (no.Cycle p) else first_cycle g n ps)) ≡ true
    by true h = refl
    by false h = h

module _ (s : State) (t : TxnId) (n : NodeId) (ps : Bor (List NodeId)) where
  -- a test refuses
  pub relocate_refused : (r : Refusal) → Err r ≡ verdict (first_refusal (worn s ∷ move_asks s t n ps.now)) → CallSteps s (command.Move t n ps) done (Err r) s
  relocate_refused r asks = refused_step done (command.Move t n ps) s r
      (refused_first (worn s ∷ move_asks s t n ps.now) (first_cycle s.graph n ps.now ∷ []) r (test_refused _ r asks))

  module _ (asks : Ok tt ≡ verdict (first_refusal (worn s ∷ move_asks s t n ps.now))) where
    pub may_regraft : MayRegraft s t n ps.now
    may_regraft =
        let t1 = not_refused (worn s) _ (verdict_ok _ tt asks) in
        let t2 = not_refused (no_txn s t) _ t1.1 in
        let t3 = not_refused (waiting_test (status_of s t.slot)) _ t2.1 in
        let t4 = not_refused (condemned_test (status_of s t.slot)) _ t3.1 in
        let t5 = not_refused (some_no_node s.graph (n ∷ ps.now)) _ t4.1 in
        let t6 = not_refused (where_true
        (not (is_movable_shape (shape_of s.graph n)) || bad_parents s.graph (least_parents (shape_of s.graph n)) ps.now) _) _ t5.1 in
        let t7 = not_refused (need_exclusive s t.slot n (some_given (parents_of s.graph n) && some_given ps.now) ps.now) _ t6.1 in
        let t8 = not_refused (need_new_parents s t.slot n ps.now) [] t7.1 in
        let kinds = or_no (not (is_movable_shape (shape_of s.graph n))) (bad_parents s.graph (least_parents (shape_of s.graph n)) ps.now)
        (test_fails _ _ t6.0) in
        record {
          acting = record { lives = txn_lives s t t2.0; active = active_is s t t2.0 t3.0 t4.0 };
          allowed = record {
            movable = not_false _ kinds.0;
            inner = inner_parents s.graph (least_parents (shape_of s.graph n)) ps.now kinds.1;
            exclusive = t7.0;
            rule = t8.0;
          };
        }

    -- only a closed cycle can still refuse
    cycle_left : refusal_of s (command.Move t n ps) ≡ first_cycle s.graph n ps.now
    cycle_left = passed_then (worn s ∷ move_asks s t n ps.now) (first_cycle s.graph n ps.now ∷ []) (verdict_ok _ tt asks) ∙ alone (first_cycle s.graph n ps.now)

    -- memory is lacking, or a cycle would be closed
    pub relocate_fails : (r : Refusal) → (r ≡ no.NoMemory) ⊎ (first_cycle s.graph n ps.now ≡ Some r) → CallSteps s (command.Move t n ps) done (Err r) s
    relocate_fails r (inl memory) = memory_step done (command.Move t n ps) s r
        (ap (λ o. is_none o || is_cycle o) cycle_left ∙ cycle_at_most s.graph n ps.now) memory
    relocate_fails r (inr cycle) = refused_step done (command.Move t n ps) s r (cycle_left ∙ cycle)

-- the node has its new parents
pub relocated : (k : ℕ) (s s' : State) (t : TxnId) (n : NodeId) (ps : Bor (List NodeId)) (list : Notices)
    → Ok tt ≡ verdict (first_refusal (worn (counting k s) ∷ move_asks (counting k s) t n ps.now)) → first_cycle s.graph n ps.now ≡ None
    → list.items ≡ told s s' → s' ≡ moved_to s n ps.now (with_parents s.graph n ps.now)
    → CallSteps (counting k s) (command.Move t n ps) done (Ok list) (counting (k + 1) s')
relocated k s s' t n ps list asks clear tells is =
    accepted_step done (command.Move t n ps) (counting k s) list (counting k s') (counting (k + 1) s')
    (cycle_left (counting k s) t n ps asks ∙ clear) refl (refl, tells, ap (counting k) is) refl
