-- Different inner nodes store another number of children each, and nothing else changes.
use Rattle.gl_graph.proofs.Words.{ap, are_distinct, are_inner, AreBornApart, AreRecounted, AreStored, arith, Beside, beside_in_body, Body}
use Rattle.gl_graph.proofs.Words.{body_with_children, Bool, cases_of, children_in_body, Counts, EachKeeps, false, get, Graph, Holds}
use Rattle.gl_graph.proofs.Words.{if◌then◌else◌, is_inner_shape, is_live, is_some, length, Limits, List, list_any, no, node_of, NodeId}
use Rattle.gl_graph.proofs.Words.{none_some, other_number, refl, same_node, shape_of, Slab}
use Rattle.gl_graph.proofs.Words.{slab_len, slice_get, slice_get_within, Some, some_is, split, Stored, subst, sym, true, Updates, vertex_of, ℕ, ◌+◌}
use Rattle.gl_graph.proofs.Words.{◌==◌, ◌∙◌, ◌≡◌}
use Rattle.gl_graph.specs.declared.node.Body.TheVariants as body
use Rattle.gl_graph.proofs.Distinct.{keys_apart}
use Rattle.gl_graph.proofs.Held.{recounted, recounted_same, live_held}
use Rattle.gl_graph.proofs.KindRules.{plain_live, inner_plain}
use Rattle.gl_graph.proofs.Look.{all_at, listed_at, live_node, place_listed}
use Rattle.gl_graph.proofs.Slots.{at_birth, at_slot, slot_at, shown}

-- a slot with another number of children
recounted_vertex : (x : Stored) (count : ℕ) → vertex_of (record x { body = body_with_children x.body count }) ≡ vertex_of x
recounted_vertex x count = grind arith

written_children : (fresh : ℕ → ℕ) (b : Body) → beside_in_body (body_with_children b (fresh (children_in_body b))) ≡ recounted fresh (beside_in_body b)
written_children fresh (body.Inner children above) = refl
written_children fresh _ = refl

-- a stored node, counted anew if it is one of these
abbrev recount_if : Bool → (ℕ → ℕ) → Stored → Stored
recount_if b fresh x = if b then record x { body = body_with_children x.body (fresh (children_in_body x.body)) } else x

recount_shown : (b : Bool) (fresh : ℕ → ℕ) (x : Stored) → vertex_of (recount_if b fresh x) ≡ vertex_of x
recount_shown true fresh x = recounted_vertex x (fresh (children_in_body x.body))
recount_shown false fresh x = refl

recount_beside : (b : Bool) (fresh : ℕ → ℕ) (x : Stored)
    → beside_in_body (recount_if b fresh x).body ≡ recounted (λ c. if b then fresh c else c) (beside_in_body x.body)
recount_beside true fresh x = written_children fresh x.body
recount_beside false fresh x = sym (recounted_same (beside_in_body x.body))

-- the number of children among what is stored
abbrev pub counted_in : Beside → ℕ
counted_in (Counts children) = children
counted_in b = 0

children_stored : (b : Body) → children_in_body b ≡ counted_in (beside_in_body b)
children_stored (body.Inner children above) = refl
children_stored _ = refl

-- these nodes are stored under different keys, each with such a number of children
pub record AreKept (Such : ℕ → Type 0) (nodes : Slab Stored) (ids : List NodeId) : Type 0 where
  pub stored : AreStored nodes ids
  pub each : EachKeeps Such nodes ids

module _ {limits : Limits} {mid : Slab Stored} {births : ℕ} {g : Graph} {beside : NodeId → Beside} (h : Holds limits mid births g beside)
    (keys : (m n : NodeId) → is_live g m ≡ true → is_live g n ≡ true → m.key ≡ n.key → m ≡ n) (ids : List NodeId) (inner : are_inner g ids ≡ true)
    (distinct : are_distinct ids ≡ true) where
  live_at : (place : ℕ) (n : NodeId) → slice_get ids place ≡ Some n → is_live g n ≡ true
  live_at place n at = plain_live g n (inner_plain _ (all_at (λ q. is_inner_shape (shape_of g q)) ids n (listed_at ids place n at) inner))

  are_stored : AreStored mid ids
  are_stored = record {
    there = λ place n at. ap is_some (live_held h n (live_at place n at)).there;
    apart = keys_apart g keys ids distinct (λ n listed. plain_live g n (inner_plain _ (all_at (λ q. is_inner_shape (shape_of g q)) ids n listed inner)));
  }

  pub are_kept : (Such : ℕ → Type 0)
      → ((n : NodeId) → list_any (same_node n) ids ≡ true → is_inner_shape (shape_of g n) ≡ true → Such (counted_in (beside n))) → AreKept Such mid ids
  are_kept Such such = record {
    stored = are_stored;
    each = λ place n x at e.
        let y = live_held h n (live_at place n at) in
        let same : y.stored ≡ x = some_is (sym y.there ∙ e) in
        let listed = listed_at ids place n at in
        subst Such (sym (ap (λ (z : Stored). children_in_body z.body) (sym same) ∙ children_stored y.stored.body ∙ ap counted_in y.kept))
        (such n listed (all_at (λ q. is_inner_shape (shape_of g q)) ids n listed inner));
  }

  module _ (fresh : ℕ → ℕ) (new : Slab Stored) (re : AreRecounted fresh mid new ids (length ids)) where
    -- a slot that is counted anew has one of these nodes
    slot_after : (k : ℕ) (x : Stored) → get mid k ≡ Some x
        → get new k ≡ Some (recount_if (list_any (same_node (record { key = k; birth = x.birth })) ids) fresh x)
    slot_after k x e =
        split (list_any (same_node (record { key = k; birth = x.birth })) ids) (λ t.
        let f = place_listed ids (record { key = k; birth = x.birth }) t in
        re.counted f.0 (record { key = k; birth = x.birth }) x (slice_get_within ids f.0 _ f.1) f.1 e ∙ ap (λ b. Some (recount_if b fresh x)) (sym t))
        (λ t. re.stays k (λ place n low at key.
        let s = live_held h n (live_at place n at) in
        let same : s.stored ≡ x = some_is (sym s.there ∙ ap (get mid) key ∙ e) in
        no (grind (arith, listed_at)))
        ∙ e ∙ ap (λ b. Some (recount_if b fresh x)) (sym t))

    -- a node that is there was there before
    slot_before : (k : ℕ) (y : Stored) → get new k ≡ Some y
        → (x : Stored) × (get mid k ≡ Some x) × (recount_if (list_any (same_node (record { key = k; birth = x.birth })) ids) fresh x ≡ y)
    slot_before k y e =
        cases_of (get mid k) (λ none. absurd (none_some (sym none
        ∙ sym (re.stays k (λ place n low at key. none_some (sym none ∙ ap (get mid) (sym key) ∙ (live_held h n (live_at place n at)).there))) ∙ e)))
        (λ x there. (x, there, some_is (sym (slot_after k x there) ∙ e)))

    still_shown : AreBornApart new × (at_birth new ≡ at_birth mid)
    still_shown =
        shown new (at_birth mid) (λ k y e. grind (arith, slot_before, recount_shown, at_birth, at_slot)) (λ b node e.
        let f = slot_at mid b node e in
        let same = recount_shown (list_any (same_node (record { key = f.key; birth = f.stored.birth })) ids) fresh f.stored in
        record {
          key = f.key;
          stored = recount_if (list_any (same_node (record { key = f.key; birth = f.stored.birth })) ids) fresh f.stored;
          there = slot_after f.key f.stored f.there;
          born = ap (λ v. v.birth) same ∙ f.born;
          is = f.is ∙ ap (node_of f.key) (sym same);
        })

    pub counts_written : Holds limits new births g (λ n. recounted (λ c. if list_any (same_node n) ids then fresh c else c) (beside n))
    counts_written = record {
      graph = (let same = still_shown.1 in
          λ i. record { at = same i; births = births; most = limits.most; most_bounds = limits.most_bounds }) ∙ h.graph;
      apart = still_shown.0;
      counted = re.len ∙ h.counted;
      kept = grind (arith, slot_before, recount_shown, recount_beside, recounted);
    }

-- one more of them is counted
module _ (fresh : ℕ → ℕ) (old mid : Slab Stored) (ids : List NodeId) (count : ℕ) (n : NodeId) (stored : AreStored old ids)
    (re : AreRecounted fresh old mid ids count) (at : slice_get ids count ≡ Some n) where
  module _ (y : Stored) (there : get mid n.key ≡ Some y) (children : ℕ) (read : children ≡ children_in_body y.body) (new : Slab Stored)
      (len : slab_len new ≡ slab_len mid) (written : (x : Stored) → get mid n.key ≡ Some x
      → Updates mid new n.key (Some (record x { body = body_with_children x.body (fresh children) }))) where
    write : (x : Stored) → get old n.key ≡ Some x
        → Updates mid new n.key (Some (record x { body = body_with_children x.body (fresh (children_in_body x.body)) }))
    write x e = grind arith

    pub recounted_more : AreRecounted fresh old new ids (count + 1)
    recounted_more = record {
      counted = λ place m x low there e. split (place == count)
          (λ t. grind (arith, write)) (λ t.
          let other = other_number place count t in
          let y = live_node (get old n.key) (stored.there count n at) in
          (write y.0 y.1).others m.key (λ same. other (stored.apart place count m n there at same))
          ∙ re.counted place m x (omega arith) there e);
      stays = λ key none.
          let y = live_node (get old n.key) (stored.there count n at) in
          (write y.0 y.1).others key (λ e. none count n (omega arith) at (sym e)) ∙ re.stays key (λ place m low there. none place m (omega arith) there);
      len = len ∙ re.len;
    }
