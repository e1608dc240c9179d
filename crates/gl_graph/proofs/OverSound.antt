-- Records are keyed in the slab: what the slab shows then, and what is stored beside the nodes.
use Rattle.gl_graph.proofs.Words.{[], ap, ap₂, AreBornApart, Beside, beside_in_body, Body, cases_of, due, due_as, false, get, Graph, Holds}
use Rattle.gl_graph.proofs.Words.{if◌then◌else◌, Inner, interval_of, is_file_shape}
use Rattle.gl_graph.proofs.Words.{is_index_of_shape, is_inner_shape, is_interval_shape, is_live, is_record_shape}
use Rattle.gl_graph.proofs.Words.{IsLawfulGraph, keys_in, length, Limits, List, list_any, list_any-append, no, Node, node_of, NodeId, None, none_some, Nothing}
use Rattle.gl_graph.proofs.Words.{Option, or-false, parents_in_body, Rec, refl, same_node, same_node-differ, Shape, shape_in, shape_in_body, shape_of, Slab}
use Rattle.gl_graph.proofs.Words.{slice_get, slice_index_or, Some, some_is, split, Stored, subst, suc, sym, true, vertex_of, zero, ℕ, ◌&&◌, ◌++◌, ◌<◌, ◌==◌}
use Rattle.gl_graph.proofs.Words.{arith, number_same, same_number, ◌||◌, ◌∙◌, ◌∷◌, ◌≡◌, ◌≢◌}
use Rattle.gl_graph.specs.declared.node.Body.TheVariants as body
use Rattle.gl_graph.specs.Keying.{AreKeyed, IsKeyed}
use Rattle.gl_graph.specs.Over.{key_for, keyed, keyed_node, keyed_shape}
use Rattle.gl_graph.proofs.Dues.{child_test, record_test}
use Rattle.gl_graph.proofs.Held.{due_after, IsStored, live_held, recounted_same}
use Rattle.gl_graph.proofs.KindRules.{interval_is}
use Rattle.gl_graph.proofs.Look.{listed_at}
use Rattle.gl_graph.proofs.OverGraph.{indexes_after, interval_after, nodes_after, seen_after}
use Rattle.gl_graph.proofs.Slots.{at_birth, at_slot, shown, slot_at}
use Rattle.gl_graph.proofs.Tally.{count_kept}

-- the place of a key that was found
record IsPlace (rs : List NodeId) (ks : List ℕ) (b k : ℕ) : Type 0 where
  pub place : ℕ
  pub rec : NodeId
  pub at : slice_get rs place ≡ Some rec
  pub birth : rec.birth ≡ b
  pub key : slice_index_or ks place 0 ≡ k
  pub low : place < length rs

found_place : (rs : List NodeId) (ks : List ℕ) (b k : ℕ) → key_for rs ks b ≡ Some k → IsPlace rs ks b k
found_place [] ks b k e = absurd (none_some e)
found_place (r ∷ rs) [] b k e = absurd (none_some e)
found_place (r ∷ rs) (x ∷ ks) b k e = split (r.birth == b)
    (λ t. record {
      place = 0;
      rec = r;
      at = refl;
      birth = same_number r.birth b t;
      key = some_is (sym (ap (λ z. if z then Some x else key_for rs ks b) t) ∙ e);
      low = omega arith;
    })
    (λ t.
    let rest = found_place rs ks b k (sym (ap (λ z. if z then Some x else key_for rs ks b) t) ∙ e) in
    let low = rest.low in
    record { place = suc rest.place; rec = rest.rec; at = rest.at; birth = rest.birth; key = rest.key; low = omega arith })

none_place : (rs : List NodeId) (ks : List ℕ) (b : ℕ) → length ks ≡ length rs → key_for rs ks b ≡ None → (place : ℕ) (r : NodeId)
    → slice_get rs place ≡ Some r → r.birth ≢ b
none_place [] ks b many none place r at birth = absurd (none_some at)
none_place (q ∷ rs) [] b many none place r at birth = absurd (omega arith)
none_place (q ∷ rs) (x ∷ ks) b many none zero r at birth =
    none_some (sym none ∙ ap (λ z. if z then Some x else key_for rs ks b) (number_same q.birth b (ap (λ (p : NodeId). p.birth) (some_is at) ∙ birth)))
none_place (q ∷ rs) (x ∷ ks) b many none (suc place) r at birth = split (q.birth == b)
    (λ t. absurd (none_some (sym none ∙ ap (λ z. if z then Some x else key_for rs ks b) t)))
    (λ t. none_place rs ks b (omega arith) (sym (ap (λ z. if z then Some x else key_for rs ks b) t) ∙ none) place r at birth)

record_beside : (b : Body) → is_record_shape (Some (shape_in_body b)) ≡ true → beside_in_body b ≡ Nothing
record_beside (body.Inner children above) h = absurd (no h)
record_beside (body.File kept above) h = absurd (no h)
record_beside _ h = refl

keyed_is : (k : ℕ) (sh : Shape) → is_record_shape (Some sh) ≡ true → keyed_shape k sh ≡ Rec (keys_in (Some sh) ++ k ∷ [])
keyed_is k (Rec keys) h = refl
keyed_is k _ h = absurd (no h)

module _ {limits : Limits} {mid : Slab Stored} {births : ℕ} {grown : Graph} {beside : NodeId → Beside} (h : Holds limits mid births grown beside)
    (id : NodeId) (rs : List NodeId) (ks : List ℕ) (many : length ks ≡ length rs)
    (records : (r : NodeId) → list_any (same_node r) rs ≡ true → (is_live grown r ≡ true) × (is_record_shape (shape_of grown r) ≡ true))
    (interval : ℕ → NodeId) (intervals : (k : ℕ) → interval k ≡ interval_of grown id k)
    (new : Slab Stored) (now : AreKeyed mid new interval rs ks (length rs)) where
  abbrev after : Graph
  after = keyed grown id rs ks

  -- a slot, after the records are keyed
  record IsSlotNow (k : ℕ) (b : Stored) : Type 0 where
    pub stored : Stored
    pub there : get new k ≡ Some stored
    pub birth : stored.birth ≡ b.birth
    pub node : after.at b.birth ≡ Some (node_of k (vertex_of stored))
    pub kept : beside_in_body stored.body ≡ beside_in_body b.body

  record_stored : (place : ℕ) (r : NodeId) → slice_get rs place ≡ Some r → IsStored mid grown beside r
  record_stored place r at = live_held h r (records r (listed_at rs place r at)).0

  was_at : (k : ℕ) (b : Stored) → get mid k ≡ Some b → grown.at b.birth ≡ Some (node_of k (vertex_of b))
  was_at k b e = ap (λ (g' : Graph). g'.at b.birth) (sym h.graph) ∙ at_slot mid h.apart k b e

  slot_now : (k : ℕ) (b : Stored) → get mid k ≡ Some b → IsSlotNow k b
  slot_now k b e = cases_of (key_for rs ks b.birth)
      (λ none. record {
        stored = b;
        there = now.stays k (λ place r low at same.
            let s = record_stored place r at in
            let is : s.stored ≡ b = some_is (sym s.there ∙ ap (get mid) same ∙ e) in
            none_place rs ks b.birth many none place r at (sym s.born ∙ ap (λ (z : Stored). z.birth) is)) ∙ e;
        birth = refl;
        node = ap (λ o. keyed_node grown id o (grown.at b.birth)) none ∙ was_at k b e;
        kept = refl;
      })
      (λ key found. keyed_slot key found (found_place rs ks b.birth key found))
    where
      keyed_slot : (key : ℕ) → key_for rs ks b.birth ≡ Some key → IsPlace rs ks b.birth key → IsSlotNow k b
      keyed_slot key found p = record {
        stored = more.now;
        there = ap (get new) (sym key_is) ∙ more.there;
        birth = more.birth;
        node = ap₂ (keyed_node grown id) found (was_at k b e) ∙ (λ i. Some (record {
          key = k;
          shape = (keyed_is key (shape_in_body b.body) rec ∙ ap (λ x. Rec (keys_in (Some (shape_in_body b.body)) ++ x ∷ [])) (sym p.key)
              ∙ sym more.more.shape) i;
          parents = (ap (λ x. parents_in_body b.body ++ x ∷ []) (sym (intervals key) ∙ ap interval (sym p.key)) ∙ sym more.more.parents) i;
        }));
        kept = record_beside more.now.body (ap (λ sh. is_record_shape (Some sh)) more.more.shape) ∙ sym (record_beside b.body rec);
      }
        where
          s : IsStored mid grown beside p.rec
          s = record_stored p.place p.rec p.at

          key_is : p.rec.key ≡ k
          key_is = h.apart p.rec.key k s.stored b s.there e (s.born ∙ p.birth)

          there' : get mid p.rec.key ≡ Some b
          there' = ap (get mid) key_is ∙ e

          rec : is_record_shape (Some (shape_in_body b.body)) ≡ true
          rec = ap (λ (z : Stored). is_record_shape (Some (shape_in_body z.body))) (some_is (sym there' ∙ s.there))
              ∙ ap (λ o. is_record_shape (shape_in o)) (sym s.node) ∙ (records p.rec (listed_at rs p.place p.rec p.at)).1

          more : IsKeyed new p.rec.key b (slice_index_or ks p.place 0) (interval (slice_index_or ks p.place 0))
          more = now.keyed p.place p.rec b p.low p.at there'

  slot_was : (k : ℕ) (y : Stored) → get new k ≡ Some y → (b : Stored) × (get mid k ≡ Some b)
  slot_was k y e = cases_of (get mid k)
      (λ none. absurd (none_some (sym (now.stays k (λ place r low at same. none_some (sym none ∙ ap (get mid) (sym same) ∙
      (record_stored place r at).there)) ∙ none)
      ∙ e)))
      (λ b there. (b, there))

  none_after : (b : ℕ) → grown.at b ≡ None → after.at b ≡ None
  none_after b none = ap (keyed_node grown id (key_for rs ks b)) none ∙ by (key_for rs ks b)
    where
      by : (o : Option ℕ) → keyed_node grown id o None ≡ None
      by None = refl
      by (Some k) = refl

  shows : AreBornApart new × (at_birth new ≡ after.at)
  shows = shown new after.at
      (λ k y e.
      let w = slot_was k y e in
      let n = slot_now k w.0 w.1 in
      let same : n.stored ≡ y = some_is (sym n.there ∙ e) in
      subst (λ (z : Stored). after.at z.birth ≡ Some (node_of k (vertex_of z))) same (ap after.at n.birth ∙ n.node))
      (λ b node e. cases_of (grown.at b) (λ none. absurd (none_some (sym (none_after b none) ∙ e)))
      (λ w there.
      let s = slot_at mid b w (ap (λ (g' : Graph). g'.at b) h.graph ∙ there) in
      let n = slot_now s.key s.stored s.there in
      record { key = s.key; stored = n.stored; there = n.there; born = n.birth ∙ s.born; is = some_is (sym e ∙ ap after.at (sym s.born) ∙ n.node) }))

  -- the slab shows the records with their keys
  pub keyed_held : Holds limits new births after beside
  keyed_held = record {
    graph = (let same = shows.1 in λ i. record { at = same i; births = births; most = limits.most; most_bounds = limits.most_bounds })
        ∙ ap (λ (g' : Graph). record { at = after.at; births = g'.births; most = g'.most; most_bounds = g'.most_bounds }) h.graph;
    apart = shows.0;
    counted = now.len ∙ h.counted ∙ sym (ap length (nodes_after grown id rs ks));
    kept = λ k y e.
        let w = slot_was k y e in
        let n = slot_now k w.0 w.1 in
        let same : n.stored ≡ y = some_is (sym n.there ∙ e) in
        subst (λ (z : Stored). beside_in_body z.body ≡ beside (record { key = k; birth = z.birth })) same
        (n.kept ∙ h.kept k w.0 w.1 ∙ ap (λ b. beside (record { key = k; birth = b })) (sym n.birth));
  }

-- what is due beside a node is what was due before
module _ (grown : Graph) (id f : NodeId) (rs : List NodeId) (ks : List ℕ) (law : IsLawfulGraph (keyed grown id rs ks))
    (index : is_index_of_shape f (shape_of (keyed grown id rs ks) id) ≡ true) where
  abbrev then' : Graph
  then' = keyed grown id rs ks

  -- no interval is a node of another kind
  no_interval : (m : NodeId) (k : ℕ) → is_interval_shape (shape_of then' m) ≡ false → same_node m (interval_of grown id k) ≡ false
  no_interval m k other = same_node-differ m (interval_of grown id k) (λ e. no (sym other ∙ ap (λ q. is_interval_shape (shape_of then' q))
      (e ∙ sym (interval_after grown id rs ks id k)) ∙ ap (λ o. is_interval_shape (shape_in o)) (interval_is then' law f id k index)))

  still_child : (m : NodeId) → is_interval_shape (shape_of then' m) ≡ false → (b : ℕ) → child_test m (then'.at b) ≡ child_test m (grown.at b)
  still_child m other b = by (key_for rs ks b) (grown.at b)
    where
      by : (o : Option ℕ) (n : Option Node) → child_test m (keyed_node grown id o n) ≡ child_test m n
      by None n = refl
      by (Some k) None = refl
      by (Some k) (Some x) = list_any-append (same_node m) x.parents (interval_of grown id k ∷ [])
          ∙ ap (λ t. list_any (same_node m) x.parents || (t || false)) (no_interval m k other) ∙ or-false (list_any (same_node m) x.parents)

  still_record : (m : NodeId) → is_interval_shape (shape_of then' m) ≡ false → (b : ℕ) → record_test m (then'.at b) ≡ record_test m (grown.at b)
  still_record m other b = ap₂ (λ s t. s && t) (by (key_for rs ks b) (grown.at b)) (still_child m other b)
    where
      keeps : (k : ℕ) (sh : Shape) → is_record_shape (Some (keyed_shape k sh)) ≡ is_record_shape (Some sh)
      keeps k (Rec keys) = refl
      keeps k _ = refl

      by : (o : Option ℕ) (n : Option Node) → is_record_shape (shape_in (keyed_node grown id o n)) ≡ is_record_shape (shape_in n)
      by None n = refl
      by (Some k) None = refl
      by (Some k) (Some x) = keeps k x.shape

  inner_no : (o : Option Shape) → is_inner_shape o ≡ true → is_interval_shape o ≡ false
  inner_no (Some Inner) h = refl
  inner_no _ h = absurd (no h)

  file_no : (o : Option Shape) → is_file_shape o ≡ true → is_interval_shape o ≡ false
  file_no (Some (Rattle.gl_graph.specs.Shapes.File adopted)) h = refl
  file_no _ h = absurd (no h)

  pub due_keyed : (m : NodeId) → due grown m ≡ due then' m
  due_keyed m =
      sym (recounted_same (due grown m))
      ∙ due_after grown then' m (λ n. n) (shape_of grown m)
      (λ e. count_kept (child_test m) refl grown then' refl (still_child m (inner_no (shape_of then' m)
      (seen_after grown id rs ks is_inner_shape (λ keys keys'. refl) m ∙ ap is_inner_shape e))))
      (λ e. (
        indexes_after grown id rs ks m,
        count_kept (record_test m) refl grown then' refl (still_record m (file_no (shape_of then' m)
            (seen_after grown id rs ks is_file_shape (λ keys keys'. refl) m ∙ e))),
      ))
      ∙ sym (seen_after grown id rs ks (due_as then' m) (λ keys keys'. refl) m)
