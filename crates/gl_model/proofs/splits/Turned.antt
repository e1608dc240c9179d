-- Some records move from one interval to another of the same index: what stays of each node's kind, keys and parents.
use Rattle.std.proofs.Common.{◌∙◌, ⊎_elim, ap, arith, inl, inr, refl, subst, sym}
use Rattle.std.specs.List.{insert, list_any, remove}
use Rattle.std.specs.Prelude.{◌≡◌, ◌≢◌, ◌⊎◌, ◌+◌, ℕ, true, false, ◌&&◌, List, [], ◌∷◌, Option, Some, is_some, nat_le, if◌then◌else◌, ⊤}
use Rattle.gl_modes.proofs.NodeLemmas.{same_node-differ, same_node-equal, same_node-other, same_node-refl}
use Rattle.gl_modes.proofs.Words.{and_both, cases_of, no, not_true, or_left, or_right, split as by_cases}
use Rattle.gl_modes.specs.Nodes.{same_node}
use Rattle.gl_modes.specs.declared.node.NodeId.{NodeId}
use Rattle.gl_graph.proofs.Distinct.{one_place}
use Rattle.gl_graph.proofs.KindRules.{parent_plain, rec_not_plain}
use Rattle.gl_graph.proofs.Look.{live_node, shaped_node}
use Rattle.gl_graph.proofs.RecordParents.{its_parents, record_shape}
use Rattle.gl_graph.specs.Graph.{IsFreeKey, no_node, first_parent, Graph, indexes_of, interval_of}
use Rattle.gl_graph.specs.Graph.{intervals_of, is_child, is_live, node_at, parents_in, parents_of, record_parents}
use Rattle.gl_graph.specs.Graph.{shape_in, shape_of}
use Rattle.gl_graph.specs.Lawful.{IsLawfulGraph}
use Rattle.gl_graph.specs.Shapes.{bounds_in, Index, Interval, intervals_in, is_record_shape, keys_in, Rec, Shape}
use Rattle.gl_graph.specs.Splits.{file_of, merge, next_interval, place_among, settled_node, settled_parents, split}
use Rattle.gl_graph.proofs.Around.{at_place, its_index, listed, shape_is, x_live}
use Rattle.gl_graph.proofs.Lists.{any_insert, stays_among}
use Rattle.gl_graph.proofs.MergeGraph.{CanMerge, j_listed, lived, lives_on, merge_key, merge_lawful, merge_other, merge_recut}
use Rattle.gl_graph.proofs.Recut.{plain_stays, Recut, record_settled}
use Rattle.gl_graph.proofs.SplitGraph.{CanSplit, n, old_lives, old_or_n, split_key, split_lawful, split_other, split_recut}

-- two lists of the same length, related item by item
abbrev pub Turns : (NodeId → NodeId → Type 0) → List NodeId → List NodeId → Type 0
Turns R [] [] = ⊤
Turns R [] (p' ∷ ps') = ⊥
Turns R (p ∷ ps) [] = ⊥
Turns R (p ∷ ps) (p' ∷ ps') = R p p' × Turns R ps ps'

-- a parent stays, or was a and is b
abbrev pub Goes : NodeId → NodeId → NodeId → NodeId → Type 0
Goes a b p p' = (p' ≡ p) ⊎ ((p ≡ a) × (p' ≡ b))

-- a node that is no record, and lives in both graphs
pub record Stays (g g' : Graph) (p : NodeId) : Type 0 where
  pub live : is_live g p ≡ true
  pub live' : is_live g' p ≡ true
  pub plain : is_record_shape (shape_of g p) ≡ false

-- a parent that stays also lives in both graphs
abbrev pub GoesIn : Graph → Graph → NodeId → NodeId → NodeId → NodeId → Type 0
GoesIn g g' a b p p' = ((p' ≡ p) × Stays g g' p) ⊎ ((p ≡ a) × (p' ≡ b))

-- records move from under a to under b, both under x, and nothing else changes
pub record Turned (g g' : Graph) (a b x : NodeId) : Type 0 where
  pub law : IsLawfulGraph g
  pub law' : IsLawfulGraph g'
  pub kinds : (q : NodeId) → is_live g q ≡ true → is_live g' q ≡ true → is_record_shape (shape_of g' q) ≡ is_record_shape (shape_of g q)
  pub keys : (q : NodeId) → is_live g q ≡ true → is_live g' q ≡ true → keys_in (shape_of g' q) ≡ keys_in (shape_of g q)
  pub plain : (q : NodeId) → is_live g q ≡ true → is_live g' q ≡ true → is_record_shape (shape_of g q) ≡ false → parents_of g' q ≡ parents_of g q
  pub records : (q : NodeId) → is_record_shape (shape_of g q) ≡ true → Turns (GoesIn g g' a b) (parents_of g q) (parents_of g' q)
  pub left : (q : NodeId) → is_live g q ≡ true → (is_live g' q ≡ true) ⊎ (q ≡ a)
  pub came : (q : NodeId) → is_live g' q ≡ true → (is_live g q ≡ true) ⊎ (q ≡ b)
  pub a_live : is_live g a ≡ true
  pub b_live : is_live g' b ≡ true
  pub a_plain : is_record_shape (shape_of g a) ≡ false
  pub b_plain : is_record_shape (shape_of g' b) ≡ false
  pub above_a : parents_of g a ≡ x ∷ []
  pub above_b : parents_of g' b ≡ x ∷ []
  pub x_stays : Stays g g' x

pub no_record : (g : Graph) → IsLawfulGraph g → (q p : NodeId) → is_child g p q ≡ true → is_record_shape (shape_of g p) ≡ false
no_record g law q p c = not_true (is_record_shape (shape_of g p)) (λ r. rec_not_plain (shape_of g p) r (parent_plain g law q p c))

-- a node that stays does so both ways
pub stays_back : (g g' : Graph) → ((q : NodeId) → is_live g q ≡ true → is_live g' q ≡ true → is_record_shape (shape_of g' q) ≡ is_record_shape (shape_of g q))
    → (p : NodeId) → Stays g g' p → Stays g' g p
stays_back g g' kinds p s = record { live = s.live'; live' = s.live; plain = kinds p s.live s.live' ∙ s.plain }

pub flip : (g g' : Graph) (a b x : NodeId) → Turned g g' a b x → Turned g' g b a x
flip g g' a b x t = record {
  law = t.law';
  law' = t.law;
  kinds = λ q l l'. sym (t.kinds q l' l);
  keys = λ q l l'. sym (t.keys q l' l);
  plain = λ q l l' h. sym (t.plain q l' l (sym (t.kinds q l' l) ∙ h));
  records = λ q h. ⊎_elim (λ live. turned (parents_of g q) (parents_of g' q) (t.records q (sym (t.kinds q live (rec_live q h)) ∙ h)))
      (λ is. absurd (no (sym t.b_plain ∙ ap (λ y. is_record_shape (shape_of g' y)) (sym is) ∙ h))) (t.came q (rec_live q h));
  left = t.came;
  came = t.left;
  a_live = t.b_live;
  b_live = t.a_live;
  a_plain = t.b_plain;
  b_plain = t.a_plain;
  above_a = t.above_b;
  above_b = t.above_a;
  x_stays = stays_back g g' t.kinds x t.x_stays;
}
  where
    rec_live : (q : NodeId) → is_record_shape (shape_of g' q) ≡ true → is_live g' q ≡ true
    rec_live q h = cases_of (node_at g' q) (λ e. absurd (no (sym (ap (λ o. is_record_shape (shape_in o)) e) ∙ h))) (λ y e. ap is_some e)

    turned : (ps ps' : List NodeId) → Turns (GoesIn g g' a b) ps ps' → Turns (GoesIn g' g b a) ps' ps
    turned [] [] h = tt
    turned [] (p' ∷ ps') h = absurd h
    turned (p ∷ ps) [] h = absurd h
    turned (p ∷ ps) (p' ∷ ps') h = (
      ⊎_elim (λ (s : (p' ≡ p) × Stays g g' p). inl (sym s.0, subst (Stays g' g) (sym s.0) (stays_back g g' t.kinds p s.1)))
          (λ (m : (p ≡ a) × (p' ≡ b)). inr (m.1, m.0)) h.0,
      turned ps ps' h.1,
    )

-- one index has other intervals, and the keys of one of them are in another
module _ (g g' : Graph) (law : IsLawfulGraph g) (law' : IsLawfulGraph g') (x f : NodeId) (bs bs' : List ℕ) (is is' : List NodeId)
    (shape : shape_of g x ≡ Some (Index f bs is)) (cut : Recut g g' x f bs' is is') (a b : NodeId)
    (each : (y : NodeId) (k : ℕ) → Goes a b (interval_of g y k) (interval_of g' y k))
    (in_is : (q : NodeId) → list_any (same_node q) is ≡ true → node_at g q ≡ Some (record { key = q.key; shape = Interval; parents = x ∷ [] })) where
  -- a record as it was and as it is
  record_now : (r : NodeId) → is_record_shape (shape_of g r) ≡ true
      → (shape_of g' r ≡ shape_of g r) × (parents_of g' r ≡ record_parents g' (first_parent g r) (keys_in (shape_of g r)))
  record_now r rec =
      let keys = record_shape (shape_of g r) rec in
      let node = shaped_node g r (Rec keys.0) keys.1 in
      let ne : r ≢ x = λ e. no (sym (ap is_record_shape shape) ∙ ap (λ y. is_record_shape (shape_of g y)) (sym e) ∙ rec) in
      let out : list_any (same_node r) is ≡ false =
      not_true (list_any (same_node r) is) (λ l. no (sym (ap (λ o. is_record_shape (shape_in o)) (in_is r l)) ∙ rec)) in
      let now = cut.others r (ap is_some node.1) ne out ∙ ap (settled_node g' f) node.1 in
      let keys_are : keys_in (shape_of g r) ≡ keys.0 = ap keys_in keys.1 in (
        ap shape_in now ∙ sym (ap shape_in node.1),
        ap parents_in now ∙ ap (λ sh. settled_parents g' f sh node.0.parents) node.2
            ∙ record_settled g g' law x f bs bs' is is' shape cut (first_parent g r) keys.0 node.0.parents
            (sym (ap parents_in node.1) ∙ its_parents g law r rec ∙ ap (record_parents g (first_parent g r)) keys_are)
            ∙ ap (record_parents g' (first_parent g r)) (sym keys_are),
      )

  intervals_turn : (ys : List NodeId) (keys : List ℕ) → Turns (Goes a b) (intervals_of g ys keys) (intervals_of g' ys keys)
  intervals_turn [] keys = tt
  intervals_turn (y ∷ ys) [] = tt
  intervals_turn (y ∷ ys) (k ∷ ks) = (each y k, intervals_turn ys ks)

  record_turns : (r : NodeId) → is_record_shape (shape_of g r) ≡ true → Turns (Goes a b) (parents_of g r) (parents_of g' r)
  record_turns r rec =
      let h = first_parent g r in
      let keys = keys_in (shape_of g r) in
      let intervals : Turns (Goes a b) (intervals_of g (indexes_of g h) keys) (intervals_of g' (indexes_of g' h) keys) =
      subst (λ ys. Turns (Goes a b) (intervals_of g (indexes_of g h) keys) (intervals_of g' ys keys)) (sym (cut.indexes h))
      (intervals_turn (indexes_of g h) keys) in
      subst (Turns (Goes a b) (parents_of g r)) (sym (record_now r rec).1)
      (subst (λ ps. Turns (Goes a b) ps (record_parents g' h keys)) (sym (its_parents g law r rec)) (inl refl, intervals))

  in_both : (r : NodeId) (ps ps' : List NodeId) → ((p : NodeId) → list_any (same_node p) ps ≡ true → is_child g p r ≡ true)
      → ((p : NodeId) → list_any (same_node p) ps' ≡ true → is_child g' p r ≡ true) → Turns (Goes a b) ps ps' → Turns (GoesIn g g' a b) ps ps'
  in_both r [] [] up up' h = tt
  in_both r [] (p' ∷ ps') up up' h = absurd h
  in_both r (p ∷ ps) [] up up' h = absurd h
  in_both r (p ∷ ps) (p' ∷ ps') up up' h = (
    ⊎_elim
        (λ (same : p' ≡ p).
        let child = up p (or_left (same_node p p) (list_any (same_node p) ps) (same_node-refl p)) in
        let child' = up' p' (or_left (same_node p' p') (list_any (same_node p') ps') (same_node-refl p')) in
        inl (
          same,
          record {
            live = law.parents_live r p child;
            live' = ap (is_live g') (sym same) ∙ law'.parents_live r p' child';
            plain = no_record g law r p child;
          },
        )) (λ (moved : (p ≡ a) × (p' ≡ b)). inr moved) h.0,
    in_both r ps ps' (λ q l. up q (or_right (same_node q p) (list_any (same_node q) ps) l))
        (λ q l. up' q (or_right (same_node q p') (list_any (same_node q) ps') l)) h.1,
  )

  -- any other node
  record Same (q : NodeId) : Type 0 where
    pub kind : is_record_shape (shape_of g' q) ≡ false
    pub keys_are : keys_in (shape_of g' q) ≡ []
    pub parents : parents_of g' q ≡ parents_of g q

  no_keys : (o : Option Shape) → is_record_shape o ≡ false → keys_in o ≡ []
  no_keys (Some (Rec keys)) h = absurd (no (sym h))
  no_keys _ h = refl

  same_by : (q : NodeId) → is_record_shape (shape_of g' q) ≡ false → parents_of g' q ≡ parents_of g q → Same q
  same_by q h e = record { kind = h; keys_are = no_keys (shape_of g' q) h; parents = e }

  plain_now : (q : NodeId) → is_live g q ≡ true → is_live g' q ≡ true → is_record_shape (shape_of g q) ≡ false → Same q
  plain_now q live live' plain =
      by_cases (same_node q x)
      (λ t.
      let e = same_node-equal q x t in
      subst Same (sym e) (same_by x (ap (λ o. is_record_shape (shape_in o)) cut.here) (ap parents_in cut.here)))
      (λ t.
      let ne = same_node-other q x t in
      by_cases (list_any (same_node q) is)
      (λ l. by_cases (list_any (same_node q) is')
      (λ l'. same_by q (ap (λ o. is_record_shape (shape_in o)) (cut.listed q l')) (ap parents_in (cut.listed q l') ∙ sym (ap parents_in (in_is q l))))
      (λ out'. absurd (no (sym (cut.were q live' ne out').1 ∙ l))))
      (λ out.
      let node = live_node (node_at g q) live in
      let kind : is_record_shape (Some node.0.shape) ≡ false = sym (ap (λ o. is_record_shape (shape_in o)) node.1) ∙ plain in
      let now = plain_stays g g' law x f bs bs' is is' shape cut q node.0 node.1 ne out kind in
      same_by q (ap (λ o. is_record_shape (shape_in o)) now ∙ kind) (ap parents_in now ∙ sym (ap parents_in node.1))))

  pub turned_by : ((q : NodeId) → is_live g q ≡ true → (is_live g' q ≡ true) ⊎ (q ≡ a)) → ((q : NodeId) → is_live g' q ≡ true → (is_live g q ≡ true) ⊎ (q ≡ b))
      → list_any (same_node a) is ≡ true → list_any (same_node b) is' ≡ true → is_live g x ≡ true → Turned g g' a b x
  turned_by left came a_in b_in live_x = record {
    law = law;
    law' = law';
    kinds = λ q l l'.
        by_cases (is_record_shape (shape_of g q)) (λ rec. ap is_record_shape (record_now q rec).0) (λ plain. (plain_now q l l' plain).kind ∙ sym plain);
    keys = λ q l l'. by_cases (is_record_shape (shape_of g q)) (λ rec. ap keys_in (record_now q rec).0)
        (λ plain. (plain_now q l l' plain).keys_are ∙ sym (no_keys (shape_of g q) plain));
    plain = λ q l l' plain. (plain_now q l l' plain).parents;
    records = λ q rec. in_both q (parents_of g q) (parents_of g' q) (λ p l. l) (λ p l. l) (record_turns q rec);
    left = left;
    came = came;
    a_live = ap is_some (in_is a a_in);
    b_live = ap is_some (cut.listed b b_in);
    a_plain = ap (λ o. is_record_shape (shape_in o)) (in_is a a_in);
    b_plain = ap (λ o. is_record_shape (shape_in o)) (cut.listed b b_in);
    above_a = ap parents_in (in_is a a_in);
    above_b = ap parents_in (cut.listed b b_in);
    x_stays = record { live = live_x; live' = ap is_some cut.here; plain = ap is_record_shape shape };
  }

-- a split moves records from the interval to the new one
module _ (g : Graph) (law : IsLawfulGraph g) (i : NodeId) (bound : ℕ) (can : CanSplit g i bound) (key : ℕ) where
  split_each : (y : NodeId) (k : ℕ) → Goes i (n g law i bound can key) (interval_of g y k) (interval_of (split g i bound key) y k)
  split_each y k =
      by_cases (same_node y (first_parent g i))
      (λ t.
      let e = same_node-equal y (first_parent g i) t in
      subst (λ z. Goes i (n g law i bound can key) (interval_of g z k) (interval_of (split g i bound key) z k)) (sym e)
      (by_cases (nat_le bound k && same_node (interval_of g (first_parent g i) k) i)
      (λ b. inr (
        same_node-equal (interval_of g (first_parent g i) k) i (and_both (nat_le bound k) _ b).1,
        split_key g law i bound can key k ∙ ap (λ c. if c then n g law i bound can key else interval_of g (first_parent g i) k) b,
      ))
      (λ b. inl (split_key g law i bound can key k ∙ ap (λ c. if c then n g law i bound can key else interval_of g (first_parent g i) k) b))))
      (λ t. inl (split_other g law i bound can key y (same_node-other y (first_parent g i) t) k))

  pub split_turned : IsFreeKey g key → Turned g (split g i bound key) i (n g law i bound can key) (first_parent g i)
  split_turned free =
      let x = first_parent g i in
      let bounds = bounds_in (shape_of g x) in
      let intervals = intervals_in (shape_of g x) in
      let new = n g law i bound can key in
      turned_by g (split g i bound key) law (split_lawful g law i bound can key free) x (file_of (shape_of g x)) bounds (insert bounds (place_among g i) bound)
      intervals (insert intervals (place_among g i + 1) new) (shape_is g law i can.kind) (split_recut g law i bound can key) i new split_each
      (its_index g law i can.kind).intervals (λ q live. inl (old_lives g law i bound can key q live)) (λ q live. old_or_n g law i bound can key q live)
      (listed g law i can.kind)
      (any_insert (same_node new) intervals (place_among g i + 1) new ∙ or_left (same_node new new) (list_any (same_node new) intervals) (same_node-refl new))
      (x_live g law i can.kind)

-- a merge moves them from the next interval to the interval
module _ (g : Graph) (law : IsLawfulGraph g) (i : NodeId) (can : CanMerge g i) where
  merge_each : (y : NodeId) (k : ℕ) → Goes (next_interval g i) i (interval_of g y k) (interval_of (merge g i) y k)
  merge_each y k =
      by_cases (same_node y (first_parent g i))
      (λ t.
      let e = same_node-equal y (first_parent g i) t in
      subst (λ z. Goes (next_interval g i) i (interval_of g z k) (interval_of (merge g i) z k)) (sym e)
      (by_cases (same_node (interval_of g (first_parent g i) k) (next_interval g i))
      (λ b. inr (
        same_node-equal (interval_of g (first_parent g i) k) (next_interval g i) b,
        merge_key g law i can k ∙ ap (λ c. if c then i else interval_of g (first_parent g i) k) b,
      ))
      (λ b. inl (merge_key g law i can k ∙ ap (λ c. if c then i else interval_of g (first_parent g i) k) b))))
      (λ t. inl (merge_other g law i can y (same_node-other y (first_parent g i) t) k))

  pub next_differs : i ≢ next_interval g i
  next_differs e =
      let at = at_place g law i can.kind in
      let next = can.next in
      let index = its_index g law i can.kind in
      let count = index.count in
      let same : place_among g i ≡ place_among g i + 1 =
      one_place (intervals_in (shape_of g (first_parent g i))) (place_among g i) (place_among g i + 1) no_node
      index.distinct at.0 (omega arith) (at.1 ∙ e) in
      absurd (omega arith)

  pub merge_turned : Turned g (merge g i) (next_interval g i) i (first_parent g i)
  merge_turned =
      let x = first_parent g i in
      let bounds = bounds_in (shape_of g x) in
      let intervals = intervals_in (shape_of g x) in
      turned_by g (merge g i) law (merge_lawful g law i can) x (file_of (shape_of g x)) bounds (remove bounds (place_among g i))
      intervals (remove intervals (place_among g i + 1)) (shape_is g law i can.kind) (merge_recut g law i can) (next_interval g i) i merge_each
      (its_index g law i can.kind).intervals
      (λ q live. by_cases (same_node q (next_interval g i)) (λ t. inr (same_node-equal q (next_interval g i) t))
      (λ t. inl (lives_on g law i can q live (same_node-other q (next_interval g i) t))))
      (λ q live. inl (lived g law i can q live).0) (j_listed g law i can)
      (stays_among intervals (place_among g i + 1) i no_node (listed g law i can.kind) (λ low. same_node-differ i (next_interval g i) next_differs))
      (x_live g law i can.kind)
