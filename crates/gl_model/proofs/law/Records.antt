-- Nodes that are born, records that are placed and deleted: the law is kept. For the calls on records.
use Rattle.gl_model.proofs.Words.{◌&&◌, ◌+◌, ◌<◌, [], ◌∙◌, ◌∷◌, ◌≡◌, ◌≤◌, Active, and_both, ap, ap₂, are_compatible, arith, Bool, born_nodes, both}
use Rattle.gl_model.proofs.Words.{children_that, clash, cond, count_by, count_none, count_same, deleted, empty-list, false, File, file_lawful, file_refusal}
use Rattle.gl_model.proofs.Words.{first_not_ix, fits-from_all, fun_ext, Graph, HasNoCycle, holds, index_lawful, index_refusal, index_unrefused}
use Rattle.gl_model.proofs.Words.{indexes_of, Inner, inner_lawful, inner_refusal, intends, intends_over, interval_nodes, is_among_waiters, is_at_least}
use Rattle.gl_model.proofs.Words.{is_child, is_empty, is_file_shape, is_idle, is_live, is_plain, is_record_shape, is_some, IsAdopted, IsBorn, IsIndexBorn}
use Rattle.gl_model.proofs.Words.{IsLawful, IsLawfulGraph, length, List, list_all, list_any, marked, marked_lawful, marked_live, marked_nodes, marked_parents}
use Rattle.gl_model.proofs.Words.{marked_record, members, Mode, ModeFitsKind, nat_tests, new_id, new_ids, new_index, new_node, NL, nobody_holds-all, Node}
use Rattle.gl_model.proofs.Words.{node_at, node_count, node_is, NodeId, nodes, nodes_grown, nodes_live, None, none_above, not, not_true, number_same, old_below}
use Rattle.gl_model.proofs.Words.{old_same, or_left, parent_plain, parents_in, parents_of, parents_unrefused, range-from_each, Rec, rec_not_plain}
use Rattle.gl_model.proofs.Words.{record_lawful, record_parents, record_refusal, record_unrefused, refl, removed_lawful, same_mode, same_node, same_node-differ}
use Rattle.gl_model.proofs.Words.{same_node-equal, same_node-other, shape_in, shape_of, Some, split, State, status_of, stays_there, subst, sum_by-append, sym}
use Rattle.gl_model.proofs.Words.{true, Waiter, with_grant, with_graph, with_key, without_node, X, ℕ}
use Rattle.gl_model.proofs.law.Departures.{departed-no_cycle, departed_lawful, GoAway}
use Rattle.gl_model.proofs.law.Keeps.{lawful-within, nl_is, with_grant-lawful}
use Rattle.gl_model.proofs.law.Tests.{all_ix}
use Rattle.gl_model.proofs.queues.Waiters.{among_by_filter}

-- Nodes that nobody holds or waits for are added and removed: the law of a state is kept.

-- the node is in another graph too, with its kind and its parents
pub record StandsIn (g g' : Graph) (n : NodeId) : Type 0 where
  pub live : is_live g' n ≡ true
  pub record_is : is_record_shape (shape_of g' n) ≡ is_record_shape (shape_of g n)
  pub parents : parents_of g' n ≡ parents_of g n

module _ (s : State) (law : IsLawful s) (g' : Graph) (lawful : IsLawfulGraph g')
    (held : (t : ℕ) (n : NodeId) → holds (members s n) t ≡ true → StandsIn s.graph g' n)
    (awaited : (t : ℕ) (n : NodeId) → is_among_waiters t (s.queue n) ≡ true → StandsIn s.graph g' n) where
  kind_later : (n : NodeId) (m : Mode) → StandsIn s.graph g' n → ModeFitsKind s n m → ModeFitsKind (with_graph s g') n m
  kind_later n m there k rec = k (sym there.record_is ∙ rec)

  rule_later : (t : ℕ) (n : NodeId) (m : Mode) → StandsIn s.graph g' n → intends s t n m ≡ true → intends (with_graph s g') t n m ≡ true
  rule_later t n m there k = ap (λ ps. intends_over (s.held t) ps m) there.parents ∙ k

  -- each grant and wait is on a node that lives on
  pub regraphed-lawful : IsLawful (with_graph s g')
  regraphed-lawful = record {
    graph = lawful;
    grants_live = λ t n h. let old = law.grants_live t n h in (old.0, (held t n h).live, kind_later n (s.held t n) (held t n h) old.2);
    waits_live = λ t n h. (awaited t n h).live;
    compatible = law.compatible;
    grants_intend = λ t n h. rule_later t n (s.held t n) (held t n h) (law.grants_intend t n h);
    waits_intend = λ t n m st.
        let there = awaited t n (among_by_filter t (t, m) [] (s.queue n) (law.one_wait t n m st)) in
        let old = law.waits_intend t n m st in
        (rule_later t n m there old.0, old.1, old.2, kind_later n m there old.3);
    one_wait = law.one_wait;
    waits_are = law.waits_are;
    holders_first = law.holders_first;
    front_waits = law.front_waits;
    slots_below = law.slots_below;
    ages = law.ages;
    ages_differ = law.ages_differ;
    known = law.known;
  }

-- Nodes are born: nobody holds them, no old node changes, and the law of a state is kept.

module _ (s : State) (law : IsLawful s) (ns : List Node) (lawful : IsLawfulGraph (born_nodes s.graph ns)) where
  old_stands : (n : NodeId) → is_live s.graph n ≡ true → StandsIn s.graph (born_nodes s.graph ns) n
  old_stands n live =
      let same = old_same s.graph law.graph ns n live in
      record { live = ap is_some same ∙ live; record_is = ap (λ o. is_record_shape (shape_in o)) same; parents = ap parents_in same }

  pub born-lawful : IsLawful (with_graph s (born_nodes s.graph ns))
  born-lawful =
      regraphed-lawful s law (born_nodes s.graph ns) lawful (λ t n h. old_stands n (law.grants_live t n h).1) (λ t n h. old_stands n (law.waits_live t n h))

module _ (g : Graph) (law : IsLawfulGraph g) (ns : List Node) where
  -- no birth above the last one names a node
  unborn : (ms : List Node) (birth : ℕ) → g.births < birth → list_all (λ c. not (is_live g c)) (new_ids birth ms) ≡ true
  unborn [] birth low = refl
  unborn (m ∷ ms) birth low = both _ _ (ap (λ o. not (is_some (with_key m.key o))) (none_above g law ns birth low)) (unborn ms (birth + 1) (omega arith))

  -- if no new node passes the test, as many children of a node pass it as before
  pub born-children : (f : NodeId → Bool) → ((c : NodeId) → f c ≡ true → is_live g c ≡ true) → (p : NodeId)
      → children_that (born_nodes g ns) f p ≡ children_that g f p
  born-children f live p =
      ap (count_by (λ c. is_child (born_nodes g ns) p c && f c)) (nodes_grown g law ns)
      ∙ sum_by-append (λ c. cond (is_child (born_nodes g ns) p c && f c) 1 0) (nodes g) (new_ids (g.births + 1) ns)
      ∙ ap₂ (λ a b. a + b) old new ∙ omega arith
    where
      old : count_by (λ c. is_child (born_nodes g ns) p c && f c) (nodes g) ≡ children_that g f p
      old = count_same (is_live g) (λ c. is_child g p c && f c) (λ c. is_child (born_nodes g ns) p c && f c) (nodes g) (nodes_live g)
          (λ c there. ap (λ o. list_any (same_node p) (parents_in o) && f c) (old_same g law ns c there))

      new : count_by (λ c. is_child (born_nodes g ns) p c && f c) (new_ids (g.births + 1) ns) ≡ 0
      new = count_none (λ c. not (is_live g c)) (λ c. is_child (born_nodes g ns) p c && f c) (new_ids (g.births + 1) ns)
          (unborn ns (g.births + 1) (omega arith))
          (λ c dead. not_true _ (λ h. clash dead (ap not (live c (and_both (is_child (born_nodes g ns) p c) (f c) h).1))))

-- g' is g with these nodes more, and lawful
pub record Grows (g g' : Graph) : Type 0 where
  pub ns : List Node
  pub lawful : IsLawfulGraph (born_nodes g ns)
  pub after : g' ≡ born_nodes g ns

pub grown-lawful : (s : State) → IsLawful s → (g' : Graph) → Grows s.graph g' → IsLawful (with_graph s g')
grown-lawful s law g' more = subst (λ g. IsLawful (with_graph s g)) (sym more.after) (born-lawful s law more.ns more.lawful)

-- what a call makes, if no test refuses it
module _ (g g' : Graph) (law : IsLawfulGraph g) (ps : List NodeId) (n : NodeId) where
  pub inner-grows : inner_refusal g ps ≡ None → IsBorn g g' n Inner ps → Grows g g'
  inner-grows free born =
      let room = parents_unrefused g 0 ps free in
      record {
        ns = record { key = n.key; shape = Inner; parents = ps } ∷ [];
        lawful = inner_lawful g law n.key ps room.inner born.key_free room.room;
        after = born.after;
      }

  pub file-grows : file_refusal g ps ≡ None → IsBorn g g' n (File false) ps → Grows g g'
  file-grows free born =
      let room = parents_unrefused g 1 ps free in
      record {
        ns = record { key = n.key; shape = File false; parents = ps } ∷ [];
        lawful = file_lawful g law n.key ps room.inner born.key_free room.room;
        after = born.after;
      }

  pub index-grows : (f : NodeId) (bs : List ℕ) → index_refusal g ps f bs ≡ None → IsIndexBorn g g' n ps f bs → Grows g g'
  index-grows f bs free born =
      let room = index_unrefused g ps f bs free in
      record {
        ns = new_index (record { key = n.key; birth = g.births + 1 }) ps f bs born.interval_keys
            ∷ interval_nodes (record { key = n.key; birth = g.births + 1 }) born.interval_keys;
        lawful = index_lawful g law n.key ps f bs born.interval_keys room.inner room.file room.few room.rise room.unused room.indexes born.intervals
            born.keys_apart born.keys_free room.room;
        after = born.after;
      }

-- A record is made, and one transaction holds it in X: the law of a state is kept.

-- nobody holds a node that does not live
pub nobody_holds : (s : State) (law : IsLawful s) (u : ℕ) (n : NodeId) → (is_live s.graph n ≡ true → ⊥) → s.held u n ≡ NL
nobody_holds s law u n gone = split (holds (members s n) u) (λ h. absurd (gone (law.grants_live u n h).1)) (λ h. nl_is (s.held u n) h)

-- and nobody waits for one
pub no_queue : (ws : List Waiter) → ((u : ℕ) → is_among_waiters u ws ≡ true → ⊥) → ws ≡ []
no_queue [] none = refl
no_queue (w ∷ ws) none = absurd (none w.0 (or_left _ _ (number_same w.0 w.0 refl)))

module _ (s : State) (law : IsLawful s) (f : NodeId) (keys : List ℕ) (file : is_file_shape (shape_of s.graph f) ≡ true)
    (each : length keys ≡ length (indexes_of s.graph f)) (room : node_count s.graph + 1 ≤ s.graph.most)
    (g' : Graph) (n : NodeId) (born : IsBorn s.graph g' n (Rec keys) (record_parents s.graph f keys)) where
  abbrev node : Node
  node = record { key = n.key; shape = Rec keys; parents = record_parents s.graph f keys }

  pub record-grows : Grows s.graph g'
  record-grows = record { ns = node ∷ []; lawful = record_lawful s.graph law.graph n.key f keys file each born.key_free room; after = born.after }

  not_old : is_live s.graph n ≡ true → ⊥
  not_old h = let low = old_below s.graph law.graph (node ∷ []) n h in let birth = born.birth in absurd (omega arith)

  pub born-unheld : (u : ℕ) → s.held u n ≡ NL
  born-unheld u = nobody_holds s law u n not_old

  pub born-unawaited : s.queue n ≡ []
  born-unawaited = no_queue (s.queue n) (λ u h. not_old (law.waits_live u n h))

  there : node_at g' n ≡ Some node
  there =
      let birth : n.birth ≡ s.graph.births + 1 + 0 = omega (arith, born.birth) in
      (λ i. node_at (born.after i) (node_is n (new_id s.graph law.graph (node ∷ []) node 0) refl birth i)) ∙ new_node s.graph law.graph (node ∷ []) 0 node refl

  pub born-live : is_live g' n ≡ true
  born-live = ap is_some there

  pub placed-lawful : (t : ℕ) → status_of s t ≡ Some Active → first_not_ix (s.held t) (record_parents s.graph f keys) ≡ None
      → IsLawful (with_grant (with_graph s g') t n X)
  placed-lawful t active rule =
      with_grant-lawful (with_graph s g') (grown-lawful s law g' record-grows) t n X active born-live (λ is. refl)
      (ap (λ o. intends_over (s.held t) (parents_in o) X) there ∙ all_ix (s.held t) (record_parents s.graph f keys) rule) (ap (is_at_least X) (born-unheld t))
      (fits-from_all s.most (members s n) t X (λ u other. ap (are_compatible X) (born-unheld u)))

-- A record is adopted: nobody holds it, and its file is one of which rows were adopted.

marked_stands : (g : Graph) (f n : NodeId) → is_live g n ≡ true → StandsIn g (marked g f) n
marked_stands g f n live = record { live = marked_live g f n ∙ live; record_is = marked_record g f n; parents = marked_parents g f n }

marked-lawful : (s : State) → IsLawful s → (f : NodeId) → IsLawful (with_graph s (marked s.graph f))
marked-lawful s law f =
    regraphed-lawful s law (marked s.graph f) (marked_lawful s.graph f law.graph) (λ t n h. marked_stands s.graph f n (law.grants_live t n h).1)
    (λ t n h. marked_stands s.graph f n (law.waits_live t n h))

marked-children : (g : Graph) (f : NodeId) (h : NodeId → Bool) (p : NodeId) → children_that (marked g f) h p ≡ children_that g h p
marked-children g f h p = grind (arith, nat_tests, marked_nodes g f, fun_ext (λ c. ap (λ ps. list_any (same_node p) ps && h c) (marked_parents g f c)))

module _ (s : State) (law : IsLawful s) (g' : Graph) (n f : NodeId) (keys : List ℕ) (free : record_refusal s.graph f keys ≡ None)
    (born : IsAdopted s.graph g' n f keys) where
  -- before the file is marked
  abbrev mid : Graph
  mid = born_nodes s.graph (record { key = n.key; shape = Rec keys; parents = record_parents s.graph f keys } ∷ [])

  abbrev grows : Grows s.graph mid
  grows =
      let room = record_unrefused s.graph f keys free in
      record {
        ns = record { key = n.key; shape = Rec keys; parents = record_parents s.graph f keys } ∷ [];
        lawful = record_lawful s.graph law.graph n.key f keys room.file room.each born.key_free room.room;
        after = refl;
      }

  pub adopted-lawful : IsLawful (with_graph s g')
  adopted-lawful = subst (λ g. IsLawful (with_graph s g)) (sym born.after) (marked-lawful (with_graph s mid) (grown-lawful s law mid grows) f)

  -- if nobody can hold it, as many children of a node are held as before
  pub adopted-children : (h : NodeId → Bool) → ((c : NodeId) → h c ≡ true → is_live s.graph c ≡ true) → (p : NodeId)
      → children_that g' h p ≡ children_that s.graph h p
  adopted-children h live p = ap (λ g. children_that g h p) born.after ∙ marked-children mid f h p ∙ born-children s.graph law.graph grows.ns h live p

-- A record that nobody holds or waits for is removed.

-- nobody holds an idle node, and nobody waits for it
pub idle-free : (s : State) → IsLawful s → (n : NodeId) → is_idle s n ≡ true → ((u : ℕ) → s.held u n ≡ NL) × (s.queue n ≡ [])
idle-free s law n idle =
    let b = and_both _ _ idle in
    (nobody_holds-all s.most (members s n) (lawful-within s law n) b.0, empty-list (s.queue n) b.1)

-- and conversely
pub free-idle : (s : State) (n : NodeId) → ((u : ℕ) → s.held u n ≡ NL) → s.queue n ≡ [] → is_idle s n ≡ true
free-idle s n unheld unawaited =
    both _ _ (range-from_each (λ t. not (holds (members s n) t)) 0 s.most (λ u low high. ap (λ m. not (not (same_mode m NL))) (unheld u)))
    (ap is_empty unawaited)

module _ (s : State) (law : IsLawful s) (r : NodeId) (rec : is_record_shape (shape_of s.graph r) ≡ true) (idle : is_idle s r ≡ true) where
  left_stands : (n : NodeId) → is_live s.graph n ≡ true → same_node n r ≡ false → StandsIn s.graph (without_node s.graph r) n
  left_stands n live e =
      let same = stays_there s.graph law.graph r rec n live (same_node-other n r e) in
      record { live = ap is_some same ∙ live; record_is = ap (λ o. is_record_shape (shape_in o)) same; parents = ap parents_in same }

  pub unheld-there : (u : ℕ) → holds (members s r) u ≡ false
  unheld-there u = ap (λ m. not (same_mode m NL)) ((idle-free s law r idle).0 u)

  not_held : (u : ℕ) (n : NodeId) → holds (members s n) u ≡ true → same_node n r ≡ false
  not_held u n h = not_true (same_node n r) (λ e. clash (ap (λ q. holds (members s q) u) (sym (same_node-equal n r e)) ∙ h) (unheld-there u))

  not_awaited : (u : ℕ) (n : NodeId) → is_among_waiters u (s.queue n) ≡ true → same_node n r ≡ false
  not_awaited u n h = grind (arith, nat_tests, same_node n r, idle-free s law r idle, same_node-equal)

  pub forgotten-lawful : IsLawful (with_graph s (without_node s.graph r))
  forgotten-lawful =
      regraphed-lawful s law (without_node s.graph r) (removed_lawful s.graph law.graph r rec)
      (λ t n h. left_stands n (law.grants_live t n h).1 (not_held t n h)) (λ t n h. left_stands n (law.waits_live t n h) (not_awaited t n h))

-- A record is removed with its grants and waits: the law of a state is kept, and no wait is added.

module _ (s : State) (law : IsLawful s) (r : NodeId) (rec : is_record_shape (shape_of s.graph r) ≡ true) where
  -- a record is nobody's parent
  pub record_goes : GoAway s.graph (λ q. same_node q r) (without_node s.graph r)
  record_goes = record {
    lawful = removed_lawful s.graph law.graph r rec;
    stays = λ q live e. stays_there s.graph law.graph r rec q live (same_node-other q r e);
    apart = λ q p live e c. same_node-differ p r (λ is. rec_not_plain (shape_of s.graph r) rec (ap (λ x. is_plain (shape_of s.graph x)) (sym is)
        ∙ parent_plain s.graph law.graph q p c));
  }

  pub deleted_lawful : IsLawful (deleted s r)
  deleted_lawful = departed_lawful s law (λ q. same_node q r) (without_node s.graph r) record_goes

pub deleted-no_cycle : (s : State) (r : NodeId) → HasNoCycle s → HasNoCycle (deleted s r)
deleted-no_cycle s r none = departed-no_cycle s (λ q. same_node q r) (without_node s.graph r) none
