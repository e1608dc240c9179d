-- An interval is split in two: which keys are in which interval, and that the graph is lawful.
use Rattle.std.proofs.Common.{◌∙◌, ⊎_elim, add-one, ap, ap₂, arith, inl, inr, refl, subst, sym}
use Rattle.std.proofs.lemmas.Bool.Decides.{nat_tests}
use Rattle.std.proofs.lemmas.List.Edits.{get_or-insert_above, get_or-insert_at, get_or-insert_below, length-insert}
use Rattle.std.proofs.lemmas.List.Sums.{count_by-le-length}
use Rattle.std.specs.List.{insert, list_any}
use Rattle.std.specs.Prelude.{◌≡◌, ◌≢◌, ◌⊎◌, ◌+◌, ◌<◌, ◌≤◌, ℕ, Bool, true, false, not}
use Rattle.std.specs.Prelude.{◌&&◌, ◌||◌, ◌==◌, cond, nat_lt, nat_le, List, [], ◌∷◌, length, Some, None}
use Rattle.std.specs.Prelude.{suc, zero, if◌then◌else◌, is_some, slice_index_or}
use Rattle.gl_modes.proofs.NodeLemmas.{node_is, same_node-differ, same_node-equal, same_node-from_equal, same_node-refl}
use Rattle.gl_modes.proofs.Words.{and_both, cases_of, no, none_some, not_true, or_elim, or_left, or_right, other_number, same_number, some_is}
use Rattle.gl_modes.proofs.Words.{split as by_cases}
use Rattle.gl_modes.specs.Nodes.{same_node}
use Rattle.gl_modes.specs.declared.node.NodeId.{NodeId}
use Rattle.gl_graph.proofs.Born.{place_in, new_id, new_node, old_below, old_or_new, old_same}
use Rattle.gl_graph.proofs.Counts.{count_grown}
use Rattle.gl_graph.proofs.Distinct.{one_place}
use Rattle.gl_graph.proofs.KeyIntervals.{held_in_place}
use Rattle.gl_graph.proofs.KeyPlace.{not_below}
use Rattle.gl_graph.proofs.Look.{live_node}
use Rattle.gl_graph.proofs.NewNodes.{one_indexes}
use Rattle.gl_graph.proofs.Unrefused.{enough_room, le_no, not_false, not_refused, or_no, test_fails}
use Rattle.gl_graph.specs.Changes.{born_node}
use Rattle.gl_graph.specs.Graph.{first_parent, Graph, interval_of, interval_place, is_live, IsFreeKey}
use Rattle.gl_graph.specs.Graph.{no_node, Node, node_at, node_count, parents_in, shape_in, shape_of}
use Rattle.gl_graph.specs.Intervals.{beginning, HoldsKey}
use Rattle.gl_graph.specs.Lawful.{IsLawfulGraph}
use Rattle.gl_graph.specs.Refusals.{some_no_node, too_many_nodes, where_true, worn_births}
use Rattle.gl_graph.specs.Shapes.{bounds_in, Index, Interval, intervals_in, is_interval_shape}
use Rattle.gl_modes.specs.declared.refusal.Refusal.TheVariants as refusal
use Rattle.gl_graph.specs.Splits.{bad_bound, file_of, is_inside, place_among, no_interval, settled_node, split, split_refusal, split_shape}
use Rattle.gl_graph.proofs.Around.{at_place, index, its_index, its_node, place_low, shape_is, x_live}
use Rattle.gl_graph.proofs.Lists.{any_insert, distinct_insert, place_insert, rising_insert}
use Rattle.gl_graph.proofs.Recut.{Fits, Recut, recut_lawful}
use Rattle.gl_graph.proofs.Settled.{interval_same, recut_here, recut_indexes, recut_live, recut_nodes, recut_other, recut_shape, recut_some}

-- what a split that is not refused has
pub record CanSplit (g : Graph) (i : NodeId) (bound : ℕ) : Type 0 where
  pub kind : is_interval_shape (shape_of g i) ≡ true
  pub above : beginning (bounds_in (shape_of g (first_parent g i))) (place_among g i) < bound
  pub below : place_among g i < length (bounds_in (shape_of g (first_parent g i)))
      → bound < beginning (bounds_in (shape_of g (first_parent g i))) (place_among g i + 1)
  pub few : length (bounds_in (shape_of g (first_parent g i))) + 1 ≤ g.most_bounds
  pub room : node_count g + 1 ≤ g.most

can_by : (g : Graph) (i : NodeId) (bound : ℕ) → no_interval g i ≡ false → bad_bound g i bound ≡ false → node_count g + 1 ≤ g.most → CanSplit g i bound
can_by g i bound kind bad room =
    let bounds = bounds_in (shape_of g (first_parent g i)) in
    let place = place_among g i in
    let tests = or_no (not (is_inside g i bound)) (nat_le g.most_bounds (length bounds)) bad in
    let inside = and_both (nat_lt (beginning bounds place) bound) (nat_le (length bounds) place || nat_lt bound (beginning bounds (place + 1)))
    (not_false (is_inside g i bound) tests.0) in
    let most = le_no g.most_bounds (length bounds) tests.1 in
    record {
      kind = not_false (is_interval_shape (shape_of g i)) kind;
      above = grind (arith, nat_tests, inside.0);
      below = λ low. or_elim (nat_le (length bounds) place) (nat_lt bound (beginning bounds (place + 1))) inside.1 (λ le. grind (arith, nat_tests)) (λ lt.
          grind (arith, nat_tests));
      few = omega arith;
      room = room;
    }

pub can_split : (g : Graph) (i : NodeId) (bound : ℕ) → split_refusal g i bound ≡ None → CanSplit g i bound
can_split g i bound h =
    let a = not_refused (worn_births g) _ h in
    let b = not_refused (some_no_node g (i ∷ [])) _ a.1 in
    let c = not_refused (where_true (no_interval g i) refusal.BadParents) _ b.1 in
    let d = not_refused (where_true (bad_bound g i bound) refusal.BadKeys) _ c.1 in
    let e = not_refused (too_many_nodes g 1) [] d.1 in
    can_by g i bound (test_fails (no_interval g i) refusal.BadParents c.0) (test_fails (bad_bound g i bound) refusal.BadKeys d.0) (enough_room g 1 e.0)

module _ (g : Graph) (law : IsLawfulGraph g) (i : NodeId) (bound : ℕ) (can : CanSplit g i bound) (key : ℕ) where
  abbrev x : NodeId
  x = first_parent g i

  abbrev bounds : List ℕ
  bounds = bounds_in (shape_of g x)

  abbrev intervals : List NodeId
  intervals = intervals_in (shape_of g x)

  abbrev file : NodeId
  file = file_of (shape_of g x)

  abbrev place : ℕ
  place = place_among g i

  abbrev pub n : NodeId
  n = record { key = key; birth = g.births + 1 }

  abbrev node : Node
  node = record { key = key; shape = Interval; parents = x ∷ [] }

  abbrev grown : Graph
  grown = born_node g node

  abbrev bounds' : List ℕ
  bounds' = insert bounds place bound

  abbrev intervals' : List NodeId
  intervals' = insert intervals (place + 1) n

  abbrev pub after : Graph
  after = split g i bound key

  was : (node : Node) × (node_at g x ≡ Some node) × (node.shape ≡ Index file bounds intervals)
  was = its_node g law i can.kind

  there : node_at grown x ≡ Some was.0
  there = old_same g law (node ∷ []) x (x_live g law i can.kind) ∙ was.1

  pub fresh : (q : NodeId) → is_live g q ≡ true → q ≢ n
  fresh q live e = let low = old_below g law (node ∷ []) q live in let birth : q.birth ≡ g.births + 1 = ap (λ y. y.birth) e in absurd (omega arith)

  pub new_there : node_at grown n ≡ Some node
  new_there =
      let birth : g.births + 1 ≡ g.births + 1 + 0 = omega arith in
      ap (node_at grown) (node_is n (new_id g law (node ∷ []) node 0) refl birth) ∙ new_node g law (node ∷ []) 0 node refl

  old_other : (q : NodeId) → q ≢ x → node_at after q ≡ settled_node after file (node_at grown q)
  old_other q ne = recut_other grown x file was.0 there (split_shape place bound n) bounds bounds' intervals intervals' was.2 refl q ne

  pub live_is : (q : NodeId) → is_live after q ≡ is_live grown q
  live_is q = recut_live grown x file was.0 there (split_shape place bound n) bounds bounds' intervals intervals' was.2 refl q

  -- a node is an old one, or the new interval
  pub old_or_n : (q : NodeId) → is_live after q ≡ true → (is_live g q ≡ true) ⊎ (q ≡ n)
  old_or_n q h =
      let y = live_node (node_at grown q) (sym (live_is q) ∙ h) in
      old_or_new g law (node ∷ []) q y.0 y.1 (λ e. inl (ap is_some e)) (λ k at same. inr (by k y.0 at same))
    where
      by : (k : ℕ) (y : Node) → place_in (node ∷ []) k ≡ Some y → q ≡ new_id g law (node ∷ []) y k → q ≡ n
      by zero y at same =
          let birth : g.births + 1 + 0 ≡ g.births + 1 = omega arith in
          same ∙ node_is (new_id g law (node ∷ []) y 0) n (ap (λ z. z.key) (some_is (sym at))) birth
      by (suc k) y at same = absurd (none_some at)

  pub old_lives : (q : NodeId) → is_live g q ≡ true → is_live after q ≡ true
  old_lives q live = live_is q ∙ ap is_some (old_same g law (node ∷ []) q live) ∙ live

  pub split_recut : Recut g after x file bounds' intervals intervals'
  split_recut = record {
    here = recut_here grown x file was.0 there (split_shape place bound n) bounds bounds' intervals intervals' was.2 refl
        ∙ ap (λ ps. Some (record { key = x.key; shape = Index file bounds' intervals'; parents = ps })) (sym (ap parents_in was.1));
    others = λ q live ne out. old_other q ne ∙ ap (settled_node after file) (old_same g law (node ∷ []) q live);
    listed = λ q h. or_elim (same_node q n) (list_any (same_node q) intervals) (sym (any_insert (same_node q) intervals (place + 1) n) ∙ h)
        (λ here. ap (node_at after) (same_node-equal q n here) ∙ old_other n (λ e. fresh x (x_live g law i can.kind) (sym e))
        ∙ ap (settled_node after file) new_there
        ∙ ap (λ (y : NodeId). Some (record { key = y.key; shape = Interval; parents = x ∷ [] })) (sym (same_node-equal q n here)))
        (λ old.
        let it = (its_index g law i can.kind).intervals q old in
        let kind : is_interval_shape (shape_of g q) ≡ true = ap (λ o. is_interval_shape (shape_in o)) it in
        old_other q (λ e. no (sym (ap is_interval_shape (shape_is g law i can.kind)) ∙ sym (ap (λ y. is_interval_shape (shape_of g y)) e) ∙ kind))
        ∙ ap (settled_node after file) (old_same g law (node ∷ []) q (ap is_some it) ∙ it));
    were = λ q live ne out. ⊎_elim (λ old. (
      old,
      not_true (list_any (same_node q) intervals) (λ l.
          no (sym out ∙ any_insert (same_node q) intervals (place + 1) n ∙ or_right (same_node q n) (list_any (same_node q) intervals) l)),
    ))
        (λ new. absurd (no (sym out ∙ any_insert (same_node q) intervals (place + 1) n
        ∙ or_left (same_node q n) (list_any (same_node q) intervals) (same_node-from_equal q n new)))) (old_or_n q live);
    indexes = λ h.
        recut_indexes grown x file was.0 there (split_shape place bound n) bounds bounds' intervals intervals' was.2 refl h
        ∙ one_indexes g law node (λ h'. refl) h;
    most_bounds = refl;
  }

  bound_below : place < length bounds → bound < slice_index_or bounds place 0
  bound_below low = subst (λ k. bound < slice_index_or (0 ∷ bounds) k 0) (add-one place) (can.below low)

  pub split_fits : IsFreeKey g key → Fits g after bounds' intervals'
  split_fits free = record {
    rising = rising_insert 0 bounds place bound (its_index g law i can.kind).rising (place_low g law i can.kind) can.above bound_below;
    few = let len = length-insert bounds place bound (place_low g law i can.kind) in let room = can.few in omega arith;
    count =
        let low = (at_place g law i can.kind).0 in
        let len = length-insert bounds place bound (place_low g law i can.kind) in
        let len' = length-insert intervals (place + 1) n (omega arith) in
        let count = (its_index g law i can.kind).count in
        omega arith;
    distinct = distinct_insert intervals (place + 1) n (its_index g law i can.kind).distinct
        (not_true (list_any (same_node n) intervals) (λ l. fresh n (ap is_some ((its_index g law i can.kind).intervals n l)) refl));
    keys_differ = λ a b ha hb e. ⊎_elim (λ old_a. ⊎_elim (λ old_b. law.keys_differ a b old_a old_b e)
        (λ new_b. absurd (free a old_a (e ∙ ap (λ y. y.key) new_b))) (old_or_n b hb))
        (λ new_a. ⊎_elim (λ old_b. absurd (free b old_b (sym e ∙ ap (λ y. y.key) new_a))) (λ new_b. new_a ∙ sym new_b) (old_or_n b hb)) (old_or_n a ha);
    born = λ b h.
        let was_some = sym (recut_some grown x file was.0 there (split_shape place bound n) bounds bounds' intervals intervals' was.2 refl b) ∙ h in
        by_cases (b == g.births + 1) (λ t. let same = same_number b (g.births + 1) t in (omega arith, omega arith))
        (λ t. let old = law.born b (sym (ap (λ z. is_some (if z then Some node else g.at b)) t) ∙ was_some) in (old.0, omega arith));
    most = refl;
    room =
        let all = count_grown g law (node ∷ []) in
        let same : node_count after ≡ node_count grown = ap length (recut_nodes grown x file was.0 there (split_shape place bound n)
        bounds bounds' intervals intervals' was.2 refl) in
        let room = can.room in
        omega arith;
  }

  pub split_lawful : IsFreeKey g key → IsLawfulGraph after
  split_lawful free = recut_lawful g after law x file bounds bounds' intervals intervals' (shape_is g law i can.kind) split_recut (split_fits free)

  -- the interval of a key of this index
  module _ (k : ℕ) where
    abbrev at : ℕ
    at = interval_place bounds k

    at_low : at ≤ length bounds
    at_low = grind (arith, count_by-le-length)

    holds : HoldsKey bounds at k
    holds = held_in_place g law x (index g law i can.kind) at k at_low refl

    rises : (a b : ℕ) → a ≤ b → b ≤ length bounds → beginning bounds a ≤ beginning bounds b
    rises a b le low = not_below (0 ∷ bounds) a b (its_index g law i can.kind).rising le (omega arith)

    now : interval_of after x k ≡ slice_index_or intervals' (at + cond (nat_le bound k) 1 0) no_node
    now = ap (λ o. slice_index_or (intervals_in (shape_in o)) (interval_place (bounds_in (shape_in o)) k) no_node) split_recut.here
        ∙ ap (λ m. slice_index_or intervals' m no_node) (place_insert bounds place bound k)

    room' : place + 1 ≤ length intervals
    room' = let low = (at_place g law i can.kind).0 in omega arith

    -- it is at another place
    elsewhere : at ≢ place → same_node (interval_of g x k) i ≡ false
    elsewhere ne = same_node-differ (interval_of g x k) i (λ e. ne (one_place intervals at place no_node (its_index g law i can.kind).distinct
        (let count = (its_index g law i can.kind).count in let low = at_low in omega arith) (at_place g law i can.kind).0
        (e ∙ sym (at_place g law i can.kind).1)))

    here_same : at ≡ place → same_node (interval_of g x k) i ≡ true
    here_same e = same_node-from_equal (interval_of g x k) i (ap (λ m. slice_index_or intervals m no_node) e ∙ (at_place g law i can.kind).1)

    abbrev chosen : Bool → Bool → NodeId
    chosen a b = if a && b then n else interval_of g x k

    pub split_key : interval_of after x k ≡ (if nat_le bound k && same_node (interval_of g x k) i then n else interval_of g x k)
    split_key = by_cases (at == place)
        (λ t.
        let e = same_number at place t in
        by_cases (nat_le bound k)
        (λ le. now ∙ ap (λ b. slice_index_or intervals' (at + cond b 1 0) no_node) le ∙ ap (λ m. slice_index_or intervals' (m + 1) no_node) e
        ∙ get_or-insert_at intervals (place + 1) n no_node room' ∙ sym (ap₂ chosen le (here_same e)))
        (λ gt. now ∙ ap (λ b. slice_index_or intervals' (at + cond b 1 0) no_node) gt
        ∙ stays_below (omega arith) ∙ sym (ap₂ chosen gt (here_same e))))
        (λ t.
        let ne = other_number at place t in
        ⊎_elim (λ (less : at < place).
        let up = rises (at + 1) place (omega arith) (place_low g law i can.kind) in
        let high = holds.next (let low = place_low g law i can.kind in omega arith) in
        let above = can.above in
        let gt : nat_le bound k ≡ false = grind (arith, nat_tests) in
        now ∙ ap (λ b. slice_index_or intervals' (at + cond b 1 0) no_node) gt ∙ stays_below (omega arith) ∙ sym (ap₂ chosen gt (elsewhere ne)))
        (λ (more : place < at).
        let up = rises (place + 1) at (omega arith) at_low in
        let low = holds.begun in
        let below = can.below (let l = at_low in omega arith) in
        let le : nat_le bound k ≡ true = grind (arith, nat_tests) in
        now ∙ ap (λ b. slice_index_or intervals' (at + cond b 1 0) no_node) le
        ∙ get_or-insert_above intervals (place + 1) n no_node at (omega arith) room' ∙ sym (ap₂ chosen le (elsewhere ne)))
        (less_or_more at place ne))
      where
        less_or_more : (a b : ℕ) → a ≢ b → (a < b) ⊎ (b < a)
        less_or_more a b ne = grind (arith, nat_tests)

        stays_below : at ≤ place → slice_index_or intervals' (at + 0) no_node ≡ interval_of g x k
        stays_below le = let same : at + 0 ≡ at = omega arith in
            ap (λ m. slice_index_or intervals' m no_node) same ∙ get_or-insert_below intervals (place + 1) n no_node at (omega arith) room'

  pub new_shape : shape_of after n ≡ Some Interval
  new_shape = ap shape_in (split_recut.listed n (any_insert (same_node n) intervals (place + 1) n
      ∙ or_left (same_node n n) (list_any (same_node n) intervals) (same_node-refl n)))

  pub split_other : (y : NodeId) → y ≢ x → (k : ℕ) → interval_of after y k ≡ interval_of g y k
  split_other y ne k = by_cases (is_live g y)
      (λ live. interval_same g after y k (recut_shape grown x file was.0 there (split_shape place bound n) bounds bounds' intervals intervals'
      was.2 refl y ne
      ∙ ap shape_in (old_same g law (node ∷ []) y live)))
      (λ dead. none_there after y k (by_cases (is_live after y)
      (λ lives. ⊎_elim (λ old. absurd (no (sym dead ∙ old))) (λ is_n. ap (λ z. intervals_in (shape_of after z)) is_n ∙ ap intervals_in new_shape)
      (old_or_n y lives)) (λ none. unshaped after y none)) ∙ sym (none_there g y k (unshaped g y dead)))
    where
      none_there : (h : Graph) (z : NodeId) (m : ℕ) → intervals_in (shape_of h z) ≡ [] → interval_of h z m ≡ no_node
      none_there h z m e = ap (λ zs. slice_index_or zs (interval_place (bounds_in (shape_of h z)) m) no_node) e

      unshaped : (h : Graph) (z : NodeId) → is_live h z ≡ false → intervals_in (shape_of h z) ≡ []
      unshaped h z dead = cases_of (node_at h z) (λ e. ap (λ o. intervals_in (shape_in o)) e) (λ w e. absurd (no (sym dead ∙ ap is_some e)))
