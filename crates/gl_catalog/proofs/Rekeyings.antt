-- A record is given another key for one index: the parents that it then has, place by place, what its tests say, and what it leaves.
use Rattle.std.specs.Prelude.{◌≡◌, ℕ, zero, suc, ◌+◌, ◌<◌, Bool, true, false, not, ◌&&◌, List, [], ◌∷◌, ◌++◌, length, Ok, if◌then◌else◌}
use Rattle.std.specs.Prelude.{get_or, take}
use Rattle.std.proofs.Common.{refl, sym, ap, ap₂, ◌∙◌, arith}
use Rattle.std.proofs.lemmas.List.{take_more}
use Rattle.gl_modes.proofs.NodeLemmas.{same_node-equal}
use Rattle.gl_modes.proofs.Words.{and_both}
use Rattle.gl_modes.specs.declared.node.NodeId.{NodeId}
use Rattle.gl_modes.specs.Nodes.{same_node}
use Rattle.gl_graph.specs.Changes.{keys_with, rekeyed, rekeyed_keys, rekeyed_parents}
use Rattle.gl_graph.specs.Shapes.{is_index_of_shape, is_record_shape, keys_in}
use Rattle.gl_graph.specs.Graph.{Graph, first_parent, indexes_of, interval_of, intervals_of, parents_of, shape_of}
use Rattle.gl_graph.specs.Lawful.{IsLawfulGraph}
use Rattle.gl_graph.specs.Refusals.{some_no_node, verdict, where_true}
use Rattle.gl_graph.proofs.RecordParents.{its_keys, its_parents}
use Rattle.gl_graph.proofs.Rekey.{count_intervals_of}
use Rattle.gl_graph.proofs.Unrefused.{not_false, not_refused, test_fails, verdict_ok}
use Rattle.gl_model.specs.declared.txn.TxnId.{TxnId}
use Rattle.gl_model.specs.Calls.{CanRekey, IsActing, moved_to, condemned_test, need_exclusive, need_new_parents, no_txn, waiting_test}
use Rattle.gl_model.specs.State.{State, status_of, counting}
use Rattle.gl_model.specs.Tellings.{told}
use Rattle.gl_steps.specs.declared.command.Command.TheVariants as command
use Rattle.gl_catalog.specs.Replies.{CallSteps, Notices, done}
use Rattle.gl_steps.specs.Tests.{refusal_of, worn}
use Rattle.gl_catalog.proofs.Carried.{accepted_step}
use Rattle.gl_steps.proofs.NotRefused.{active_is, txn_lives}

-- a key for each index, also if one has changed
keys_counted : (is : List NodeId) (ks : List ℕ) (index : NodeId) (key : ℕ) → length ks ≡ length is → length (keys_with is ks index key) ≡ length is
keys_counted [] ks index key each = each
keys_counted (i ∷ is) [] index key each = each
keys_counted (i ∷ is) (k ∷ ks) index key each = ap suc (keys_counted is ks index key (omega arith))

keys_at : (is : List NodeId) (ks : List ℕ) (index : NodeId) (key place : ℕ) (d : NodeId) → length ks ≡ length is → place < length is
    → get_or (keys_with is ks index key) place 0 ≡ (if same_node (get_or is place d) index then key else get_or ks place 0)
keys_at [] ks index key place d each low = absurd (omega arith)
keys_at (i ∷ is) [] index key place d each low = absurd (omega arith)
keys_at (i ∷ is) (k ∷ ks) index key zero d each low = refl
keys_at (i ∷ is) (k ∷ ks) index key (suc place) d each low = keys_at is ks index key place d (omega arith) (omega arith)

module _ (g : Graph) where
  intervals_at : (is : List NodeId) (ks : List ℕ) (place : ℕ) (d : NodeId) → length ks ≡ length is → place < length is
      → get_or (intervals_of g is ks) place d ≡ interval_of g (get_or is place d) (get_or ks place 0)
  intervals_at [] ks place d each low = absurd (omega arith)
  intervals_at (i ∷ is) [] place d each low = absurd (omega arith)
  intervals_at (i ∷ is) (k ∷ ks) zero d each low = refl
  intervals_at (i ∷ is) (k ∷ ks) (suc place) d each low = intervals_at is ks place d (omega arith) (omega arith)

  module _ (law : IsLawfulGraph g) (r : NodeId) (rec : is_record_shape (shape_of g r) ≡ true) where
    abbrev is : List NodeId
    is = indexes_of g (first_parent g r)

    abbrev keys : List ℕ
    keys = keys_in (shape_of g r)

    -- a record has its file and an interval for each index as parents, before
    pub parents_counted : length (parents_of g r) ≡ length is + 1
    parents_counted = let count = ap length (its_parents g law r rec) in let each = count_intervals_of g is keys (its_keys g law r rec) in omega arith

    parents_at : (place : ℕ) (d : NodeId) → place < length is → get_or (parents_of g r) (place + 1) d ≡ interval_of g (get_or is place d) (get_or keys place 0)
    parents_at place d low =
        let more : place + 1 ≡ suc place = omega arith in
        ap₂ (λ ps k. get_or ps k d) (its_parents g law r rec) more ∙ intervals_at is keys place d (its_keys g law r rec) low

    module _ (index : NodeId) (key : ℕ) where
      each : length (rekeyed_keys g r index key) ≡ length is
      each = keys_counted is keys index key (its_keys g law r rec)

      -- and after
      pub rekeyed_counted : length (rekeyed_parents g r index key) ≡ length is + 1
      rekeyed_counted = let count = count_intervals_of g is (rekeyed_keys g r index key) each in omega arith

      -- the interval of the index is another, and every other is as it was
      rekeyed_at : (place : ℕ) (d : NodeId) (b : Bool) → place < length is → same_node (get_or is place d) index ≡ b
          → get_or (rekeyed_parents g r index key) (place + 1) d ≡ (if b then interval_of g index key else get_or (parents_of g r) (place + 1) d)
      rekeyed_at place d b low test =
          let more : place + 1 ≡ suc place = omega arith in
          ap (λ k. get_or (rekeyed_parents g r index key) k d) more ∙ intervals_at is (rekeyed_keys g r index key) place d each low
          ∙ ap (interval_of g (get_or is place d))
          (keys_at is keys index key place d (its_keys g law r rec) low ∙ ap (λ x. if x then key else get_or keys place 0) test) ∙ by b test
        where
          by : (x : Bool) → same_node (get_or is place d) index ≡ x
              → interval_of g (get_or is place d)
              (if x then key else get_or keys place 0) ≡ (if x then interval_of g index key else get_or (parents_of g r) (place + 1) d)
          by true here = ap (λ i. interval_of g i key) (same_node-equal (get_or is place d) index here)
          by false other = sym (parents_at place d low)

      -- and so one place after the other
      pub rekeyed_more : (place : ℕ) (d : NodeId) (b : Bool) → place < length is → same_node (get_or is place d) index ≡ b
          → take (place + 1 + 1) (rekeyed_parents g r index key) ≡ take (place + 1) (rekeyed_parents g r index key)
          ++ (if b then interval_of g index key else get_or (parents_of g r) (place + 1) d) ∷ []
      rekeyed_more place d b low test =
          let count = rekeyed_counted in
          take_more (rekeyed_parents g r index key) (place + 1) d (omega arith)
          ∙ ap (λ n. take (place + 1) (rekeyed_parents g r index key) ++ n ∷ []) (rekeyed_at place d b low test)

-- the transaction may give the record this key
pub record MayReparent (s : State) (t : TxnId) (r index : NodeId) (key : ℕ) : Type 0 where
  pub acting : IsActing s t
  pub allowed : CanRekey s t.slot r index key

pub may_reparent : (s : State) (t : TxnId) (r index : NodeId) (key : ℕ) → Ok tt ≡ verdict (refusal_of s (command.Rekey t r index key))
    → MayReparent s t r index key
may_reparent s t r index key asks =
    let t1 = not_refused (worn s) _ (verdict_ok _ tt asks) in
    let t2 = not_refused (no_txn s t) _ t1.1 in
    let t3 = not_refused (waiting_test (status_of s t.slot)) _ t2.1 in
    let t4 = not_refused (condemned_test (status_of s t.slot)) _ t3.1 in
    let t5 = not_refused (some_no_node s.graph (r ∷ index ∷ [])) _ t4.1 in
    let t6 = not_refused (where_true (not
    (is_record_shape (shape_of s.graph r) && is_index_of_shape (first_parent s.graph r) (shape_of s.graph index))) _) _ t5.1 in
    let t7 = not_refused (need_exclusive s t.slot r true (rekeyed_parents s.graph r index key)) _ t6.1 in
    let t8 = not_refused (need_new_parents s t.slot r (rekeyed_parents s.graph r index key)) [] t7.1 in
    let kinds = and_both (is_record_shape (shape_of s.graph r)) (is_index_of_shape (first_parent s.graph r) (shape_of s.graph index))
    (not_false _ (test_fails _ _ t6.0)) in
    record {
      acting = record { lives = txn_lives s t t2.0; active = active_is s t t2.0 t3.0 t4.0 };
      allowed = record { «record» = kinds.0; index = kinds.1; exclusive = t7.0; parents = t8.0 };
    }

-- the record has its new key
pub rekey_done : (k : ℕ) (s s' : State) (t : TxnId) (r index : NodeId) (key : ℕ) (list : Notices)
    → Ok tt ≡ verdict (refusal_of (counting k s) (command.Rekey t r index key))
    → list.items ≡ told s s' → s' ≡ moved_to s r (rekeyed_parents s.graph r index key) (rekeyed s.graph r index key)
    → CallSteps (counting k s) (command.Rekey t r index key) done (Ok list) (counting (k + 1) s')
rekey_done k s s' t r index key list asks tells is =
    accepted_step done (command.Rekey t r index key) (counting k s) list (counting k s') (counting (k + 1) s') (verdict_ok _ tt asks) refl
    (refl, tells, ap (counting k) is) refl
