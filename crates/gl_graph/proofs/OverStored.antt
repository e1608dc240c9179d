-- The records of a file as they are stored: each under its own key, with room for one more.
use Rattle.gl_graph.proofs.Words.{[], and_both, ap, arith, AreStored, Beside, first_parent}
use Rattle.gl_graph.proofs.Words.{get, Graph, Holds, indexes_of, intervals_of, is_child, is_file_shape, is_live}
use Rattle.gl_graph.proofs.Words.{is_record_shape, is_some, IsLawfulGraph, IsRising, keys_in, length, Limits, List, list_all, list_any, map, nat_lt, nat_tests}
use Rattle.gl_graph.proofs.Words.{node_at, node_of, NodeId, none_some, parents_in, parents_in_body}
use Rattle.gl_graph.proofs.Words.{refl, same_node, same_node-equal, shape_in, shape_in_body, shape_of, Slab}
use Rattle.gl_graph.proofs.Words.{slice_get, Some, some_is, Stored, suc, sym, true, vertex_of, zero, ℕ, ◌++◌, ◌+◌, ◌<◌, ◌∙◌, ◌∷◌, ◌≡◌, ◌≤◌}
use Rattle.gl_graph.specs.Keying.{AreBodiesFor, AreRecordsStored}
use Rattle.gl_graph.specs.Over.{are_keyed}
use Rattle.gl_graph.specs.declared.node.Body.{Body}
use Rattle.gl_graph.proofs.Held.{IsStored, live_held}
use Rattle.gl_graph.proofs.Look.{child_live, listed_at}
use Rattle.gl_graph.proofs.OverGraph.{each_record, rise}
use Rattle.gl_graph.proofs.RecordParents.{its_keys, its_parents, record_of_file}
use Rattle.gl_graph.proofs.Rekey.{count_intervals_of}

above_all : (a : ℕ) (rs : List NodeId) (place : ℕ) (r : NodeId) → list_all (λ b. nat_lt a b) (map (λ (q : NodeId). q.birth) rs) ≡ true
    → slice_get rs place ≡ Some r → a < r.birth
above_all a [] place r all at = absurd (none_some at)
above_all a (q ∷ rs) zero r all at =
    let low : nat_lt a r.birth ≡ true = ap (λ (p : NodeId). nat_lt a p.birth) (sym (some_is at)) ∙ (and_both (nat_lt a q.birth) _ all).0 in grind
    (arith, nat_tests)
above_all a (q ∷ rs) (suc place) r all at = above_all a rs place r (and_both (nat_lt a q.birth) _ all).1 at

-- in order of birth no node has two places
one_place : (rs : List NodeId) → IsRising (map (λ (q : NodeId). q.birth) rs) → (place other : ℕ) (r : NodeId) → slice_get rs place ≡ Some r
    → slice_get rs other ≡ Some r → place ≡ other
one_place [] rises place other r at at' = absurd (none_some at)
one_place (q ∷ rs) rises zero zero r at at' = refl
one_place (q ∷ rs) rises zero (suc other) r at at' =
    let low = above_all q.birth rs other r rises.0 at' in let same = ap (λ (p : NodeId). p.birth) (some_is at) in absurd (omega arith)
one_place (q ∷ rs) rises (suc place) zero r at at' =
    let low = above_all q.birth rs place r rises.0 at in let same = ap (λ (p : NodeId). p.birth) (some_is at') in absurd (omega arith)
one_place (q ∷ rs) rises (suc place) (suc other) r at at' = ap suc (one_place rs rises.1 place other r at at')

module _ (g : Graph) (law : IsLawfulGraph g) (f : NodeId) (rs : List NodeId) (ks : List ℕ) (all : are_keyed g f rs ks ≡ true) where
  pub named_live : (r : NodeId) → list_any (same_node r) rs ≡ true → is_live g r ≡ true
  named_live r h = child_live g r f (and_both (is_record_shape (shape_of g r)) (is_child g f r) (each_record g f rs ks all r h)).1

  pub named_record : (r : NodeId) → list_any (same_node r) rs ≡ true → is_record_shape (shape_of g r) ≡ true
  named_record r h = (and_both (is_record_shape (shape_of g r)) (is_child g f r) (each_record g f rs ks all r h)).0

  module _ {limits : Limits} {s : Slab Stored} {births : ℕ} {now : Graph} {beside : NodeId → Beside} (held : Holds limits s births now beside)
      (same : (r : NodeId) → list_any (same_node r) rs ≡ true → node_at now r ≡ node_at g r) where
    pub named_stored : (place : ℕ) (r : NodeId) → slice_get rs place ≡ Some r → IsStored s now beside r
    named_stored place r at = let h = listed_at rs place r at in live_held held r (ap is_some (same r h) ∙ named_live r h)

    pub named_node : (place : ℕ) (r : NodeId) (x : Stored) → slice_get rs place ≡ Some r → get s r.key ≡ Some x → node_at g r ≡ Some (node_of r.key
        (vertex_of x))
    named_node place r x at there =
        let it = named_stored place r at in
        sym (same r (listed_at rs place r at)) ∙ it.node ∙ ap (λ (y : Stored). Some (node_of r.key (vertex_of y))) (some_is (sym it.there ∙ there))

    are_stored : AreStored s rs
    are_stored = record {
      there = λ place r at. ap is_some (named_stored place r at).there;
      apart = λ place other m n at at' key.
          let equal = law.keys_differ m n (named_live m (listed_at rs place m at)) (named_live n (listed_at rs other n at')) key in
          one_place rs (rise g f rs ks all).1 place other m at (at' ∙ ap Some (sym equal));
    }

    pub records_ready : is_file_shape (shape_of g f) ≡ true → length (indexes_of g f) + 1 ≤ 7 → AreRecordsStored s rs
    records_ready file room = record {
      stored = are_stored;
      few = λ place r x at there.
          let h = listed_at rs place r at in
          let node = named_node place r x at there in
          let rec = named_record r h in
          let shape : shape_of g r ≡ Some (shape_in_body x.body) = ap shape_in node in
          let first : f ≡ first_parent g r = same_node-equal f (first_parent g r) (sym (record_of_file g law r rec f file) ∙ each_record g f rs ks all r h) in
          let few_indexes : length (indexes_of g (first_parent g r)) ≡ length (indexes_of g f) = ap (λ y. length (indexes_of g y)) (sym first) in
          let keys : length (keys_in (shape_of g r)) ≡ length (keys_in (Some (shape_in_body x.body))) = ap (λ o. length (keys_in o)) shape in
          let each = its_keys g law r rec in
          let parents : length (parents_in_body x.body) ≡ length (intervals_of g (indexes_of g (first_parent g r)) (keys_in (shape_of g r))) + 1 =
          ap (λ o. length (parents_in o)) (sym node) ∙ ap length (its_parents g law r rec) ∙ one_first (intervals_of g (indexes_of g
          (first_parent g r)) (keys_in (shape_of g r))) (first_parent g r) in
          let intervals = count_intervals_of g (indexes_of g (first_parent g r)) (keys_in (shape_of g r)) each in
          (ap (λ o. is_record_shape o) (sym shape) ∙ rec, omega arith, omega arith);
    }
      where
        one_first : (ps : List NodeId) (p : NodeId) → length (p ∷ ps) ≡ length ps + 1
        one_first ps p = omega arith

  -- bodies that were made of the records are for them as long as the graph shows the same records
  pub bodies_still : {limits limits' : Limits} {s s' : Slab Stored} {births births' : ℕ} {now now' : Graph} {beside beside' : NodeId → Beside}
      → Holds limits s births now beside → ((r : NodeId) → list_any (same_node r) rs ≡ true → node_at now r ≡ node_at g r)
      → Holds limits' s' births' now' beside' → ((r : NodeId) → list_any (same_node r) rs ≡ true → node_at now' r ≡ node_at g r)
      → (bodies : List Body) (count : ℕ) → AreBodiesFor s rs ks bodies count → AreBodiesFor s' rs ks bodies count
  bodies_still held same held' same' bodies count are = record {
    many = are.many;
    each = λ place r x b at there in_bodies.
        let was = named_stored held same place r at in
        let node = some_is (sym (named_node held same place r was.stored at was.there) ∙ named_node held' same' place r x at there) in
        let more = are.each place r was.stored b at was.there in_bodies in
        record {
          shape = more.shape ∙ ap (λ (n : Rattle.gl_graph.specs.Graph.Node). Rattle.gl_graph.specs.Shapes.Rec (keys_in
              (Some n.shape) ++ Rattle.std.specs.Prelude.slice_index_or ks place 0 ∷ [])) node;
          parents = more.parents ∙ ap (λ (n : Rattle.gl_graph.specs.Graph.Node). n.parents ++ Rattle.gl_graph.specs.Graph.no_node ∷ []) node;
        };
  }
