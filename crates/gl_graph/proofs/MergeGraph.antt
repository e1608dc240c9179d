-- Two neighbours are merged: which keys are in which interval, and that the graph is lawful.
use Rattle.std.proofs.Common.{◌∙◌, ⊎_elim, add-one, ap, arith, inl, inr, refl, rules, sym}
use Rattle.std.proofs.lemmas.Bool.Decides.{nat_tests}
use Rattle.std.proofs.lemmas.List.Edits.{get_or-remove_above, get_or-remove_below, length-remove}
use Rattle.std.proofs.lemmas.List.Sums.{count_by-le-length}
use Rattle.std.specs.List.{list_any, range_with_len, remove}
use Rattle.std.specs.Prelude.{◌≡◌, ◌≢◌, ◌⊎◌, ◌+◌, ◌<◌, ◌≤◌, ℕ, suc, Bool, true, false, ◌==◌, cond, nat_le, List, [], ◌∷◌, length, Some, None, if◌then◌else◌}
use Rattle.std.specs.Prelude.{is_some, slice_index_or}
use Rattle.gl_modes.proofs.NodeLemmas.{same_node-differ, same_node-equal, same_node-from_equal, same_node-other}
use Rattle.gl_modes.proofs.Words.{cases_of, no, not_true, number_other, number_same, other_number, same_number, split as by_cases}
use Rattle.gl_modes.specs.Nodes.{same_node}
use Rattle.gl_modes.specs.declared.node.NodeId.{NodeId}
use Rattle.gl_graph.proofs.Distinct.{one_place}
use Rattle.gl_graph.proofs.KeyIntervals.{held_in_place}
use Rattle.gl_graph.proofs.KeyPlace.{not_below}
use Rattle.gl_graph.proofs.KindRules.{each_interval, interval_listed}
use Rattle.gl_graph.proofs.Listings.{map_fewer}
use Rattle.gl_graph.proofs.Look.{found_at, one_birth}
use Rattle.gl_graph.proofs.Tally.{list_same, picked}
use Rattle.gl_graph.proofs.Unrefused.{le_no, not_false, not_refused, or_no, test_fails}
use Rattle.gl_graph.specs.Changes.{without_node}
use Rattle.gl_graph.specs.Graph.{first_parent, Graph, id_of, indexes_of, interval_of, interval_place}
use Rattle.gl_graph.specs.Graph.{is_live, no_node, Node, node_at, node_count, parents_in, shape_in}
use Rattle.gl_graph.specs.Graph.{shape_of, with_key}
use Rattle.gl_graph.specs.Intervals.{beginning, HoldsKey}
use Rattle.gl_graph.specs.Lawful.{IsLawfulGraph}
use Rattle.gl_graph.specs.Refusals.{some_no_node, where_true}
use Rattle.gl_graph.specs.Shapes.{bounds_in, Index, Interval, intervals_in, is_index_of_shape, is_interval_shape}
use Rattle.gl_modes.specs.declared.refusal.Refusal.TheVariants as refusal
use Rattle.gl_graph.specs.Splits.{file_of, has_no_next, merge, merge_refusal, merged_shape, next_interval, no_interval, place_among, settled_node}
use Rattle.gl_graph.proofs.Around.{at_place, index, its_index, its_node, shape_is, x_live}
use Rattle.gl_graph.proofs.Lists.{any_removed, distinct_remove, gone_from, place_remove, rising_remove, stays_among}
use Rattle.gl_graph.proofs.Recut.{Fits, Recut, recut_lawful}
use Rattle.gl_graph.proofs.Settled.{interval_same, recut_here, recut_indexes, recut_live, recut_nodes, recut_other, recut_shape, recut_some}

-- what a merge that is not refused has
pub record CanMerge (g : Graph) (i : NodeId) : Type 0 where
  pub kind : is_interval_shape (shape_of g i) ≡ true
  pub next : place_among g i < length (bounds_in (shape_of g (first_parent g i)))

pub can_merge_by : (g : Graph) (i : NodeId) → has_no_next g i ≡ false → CanMerge g i
can_merge_by g i h =
    let t = or_no (no_interval g i) (nat_le (length (bounds_in (shape_of g (first_parent g i)))) (place_among g i)) h in
    record {
      kind = not_false (is_interval_shape (shape_of g i)) t.0;
      next = le_no (length (bounds_in (shape_of g (first_parent g i)))) (place_among g i) t.1;
    }

pub can_merge : (g : Graph) (i : NodeId) → merge_refusal g i ≡ None → CanMerge g i
can_merge g i h =
    let a = not_refused (some_no_node g (i ∷ [])) _ h in
    let b = not_refused (where_true (has_no_next g i) refusal.BadParents) [] a.1 in
    can_merge_by g i (test_fails (has_no_next g i) refusal.BadParents b.0)

module _ (g : Graph) (law : IsLawfulGraph g) (i : NodeId) (can : CanMerge g i) where
  abbrev x : NodeId
  x = first_parent g i

  abbrev bounds : List ℕ
  bounds = bounds_in (shape_of g x)

  abbrev intervals : List NodeId
  intervals = intervals_in (shape_of g x)

  abbrev file : NodeId
  file = file_of (shape_of g x)

  abbrev place : ℕ
  place = place_among g i

  abbrev pub j : NodeId
  j = next_interval g i

  abbrev less : Graph
  less = without_node g j

  abbrev bounds' : List ℕ
  bounds' = remove bounds place

  abbrev intervals' : List NodeId
  intervals' = remove intervals (place + 1)

  abbrev pub after : Graph
  after = merge g i

  pub high : place + 1 < length intervals
  high = let next = can.next in let count = (its_index g law i can.kind).count in omega arith

  pub j_listed : list_any (same_node j) intervals ≡ true
  j_listed = let next = can.next in interval_listed g law x (index g law i can.kind) (place + 1) (omega arith)

  pub j_node : node_at g j ≡ Some (record { key = j.key; shape = Interval; parents = x ∷ [] })
  j_node = each_interval g law x j j_listed

  at_beside : (b : ℕ) → b ≢ j.birth → less.at b ≡ g.at b
  at_beside b ne = ap (λ t. if t then None else g.at b) (number_other b j.birth ne)

  at_gone : (b : ℕ) → b ≡ j.birth → less.at b ≡ None
  at_gone b e = ap (λ t. if t then None else g.at b) (number_same b j.birth e)

  pub stays : (q : NodeId) → is_live g q ≡ true → q ≢ j → node_at less q ≡ node_at g q
  stays q live ne = ap (with_key q.key) (at_beside q.birth (λ e. ne (one_birth g q j live (ap is_some j_node) e)))

  -- what is left was there, and is not the next interval
  pub was_left : (q : NodeId) → is_live less q ≡ true → (is_live g q ≡ true) × (q ≢ j)
  was_left q h = by_cases (q.birth == j.birth)
      (λ t. absurd (no (sym (ap (λ o. is_some (with_key q.key o)) (at_gone q.birth (same_number q.birth j.birth t))) ∙ h)))
      (λ t. (
        sym (ap (λ o. is_some (with_key q.key o)) (at_beside q.birth (other_number q.birth j.birth t))) ∙ h,
        λ e. other_number q.birth j.birth t (ap (λ y. y.birth) e),
      ))

  was : (node : Node) × (node_at g x ≡ Some node) × (node.shape ≡ Index file bounds intervals)
  was = its_node g law i can.kind

  not_interval : (q : NodeId) → is_interval_shape (shape_of g q) ≡ true → q ≢ x
  not_interval q kind e = no (sym (ap is_interval_shape (shape_is g law i can.kind)) ∙ sym (ap (λ y. is_interval_shape (shape_of g y)) e) ∙ kind)

  pub x_not_j : x ≢ j
  x_not_j e = not_interval j (ap (λ o. is_interval_shape (shape_in o)) j_node) (sym e)

  there : node_at less x ≡ Some was.0
  there = stays x (x_live g law i can.kind) x_not_j ∙ was.1

  old_other : (q : NodeId) → q ≢ x → node_at after q ≡ settled_node after file (node_at less q)
  old_other q ne = recut_other less x file was.0 there (merged_shape place) bounds bounds' intervals intervals' was.2 refl q ne

  live_is : (q : NodeId) → is_live after q ≡ is_live less q
  live_is q = recut_live less x file was.0 there (merged_shape place) bounds bounds' intervals intervals' was.2 refl q

  -- a node that lives lived before, and is not the next interval; and each of those lives
  pub lived : (q : NodeId) → is_live after q ≡ true → (is_live g q ≡ true) × (q ≢ j)
  lived q h = was_left q (sym (live_is q) ∙ h)

  pub lives_on : (q : NodeId) → is_live g q ≡ true → q ≢ j → is_live after q ≡ true
  lives_on q live ne = live_is q ∙ ap is_some (stays q live ne) ∙ live

  less_indexes : (h : NodeId) → indexes_of less h ≡ indexes_of g h
  less_indexes h = list_same (λ n o. is_index_of_shape h (shape_in o)) (λ n o. is_index_of_shape h (shape_in o)) g less refl (λ b.
      by_cases (b == j.birth) (λ t.
      ap (picked (λ n o. is_index_of_shape h (shape_in o)) b) (at_gone b (same_number b j.birth t))
      ∙ sym (ap (picked (λ n o. is_index_of_shape h (shape_in o)) b)
      (ap g.at (same_number b j.birth t) ∙ (found_at g j (record { key = j.key; shape = Interval; parents = x ∷ [] }) j_node).0)))
      (λ t. ap (picked (λ n o. is_index_of_shape h (shape_in o)) b) (at_beside b (other_number b j.birth t))))

  pub merge_recut : Recut g after x file bounds' intervals intervals'
  merge_recut = record {
    here = recut_here less x file was.0 there (merged_shape place) bounds bounds' intervals intervals' was.2 refl
        ∙ ap (λ ps. Some (record { key = x.key; shape = Index file bounds' intervals'; parents = ps })) (sym (ap parents_in was.1));
    others = λ q live ne out. old_other q ne
        ∙ ap (settled_node after file) (stays q live (λ e. no (sym out ∙ ap (λ y. list_any (same_node y) intervals) e ∙ j_listed)));
    listed = λ q h.
        let old = any_removed (same_node q) intervals (place + 1) h in
        let it = (its_index g law i can.kind).intervals q old in
        let ne : q ≢ j = λ e. no (sym (gone_from intervals (place + 1) no_node (its_index g law i can.kind).distinct high)
        ∙ ap (λ y. list_any (same_node y) intervals') (sym e) ∙ h) in
        old_other q (not_interval q (ap (λ o. is_interval_shape (shape_in o)) it)) ∙ ap (settled_node after file) (stays q (ap is_some it) ne ∙ it);
    were = λ q live ne out.
        let old = lived q live in (
          old.0,
          not_true (list_any (same_node q) intervals) (λ l.
              no (sym out ∙ stays_among intervals (place + 1) q no_node l (λ low. same_node-differ q j old.1))),
        );
    indexes = λ h. recut_indexes less x file was.0 there (merged_shape place) bounds bounds' intervals intervals' was.2 refl h ∙ less_indexes h;
    most_bounds = refl;
  }

  fewer : node_count less ≤ node_count g
  fewer = map_fewer (λ b. id_of b (g.at b)) (λ b. id_of b (less.at b)) (λ b. by_cases (b == j.birth)
      (λ t. inr (ap (id_of b) (at_gone b (same_number b j.birth t)))) (λ t. inl (ap (id_of b) (at_beside b (other_number b j.birth t)))))
      (range_with_len 1 g.births)

  pub merge_fits : Fits g after bounds' intervals'
  merge_fits = record {
    rising = rising_remove (0 ∷ bounds) (suc place) (its_index g law i can.kind).rising;
    few = let len = length-remove bounds place can.next in let few = (its_index g law i can.kind).few in omega arith;
    count =
        let len = length-remove bounds place can.next in
        let len' = length-remove intervals (place + 1) high in
        let count = (its_index g law i can.kind).count in
        omega arith;
    distinct = distinct_remove intervals (place + 1) (its_index g law i can.kind).distinct;
    keys_differ = λ a b ha hb e. law.keys_differ a b (lived a ha).0 (lived b hb).0 e;
    born = λ b h.
        let left = sym (recut_some less x file was.0 there (merged_shape place) bounds bounds' intervals intervals' was.2 refl b) ∙ h in
        by_cases (b == j.birth) (λ t. absurd (no (sym (ap is_some (at_gone b (same_number b j.birth t))) ∙ left)))
        (λ t. law.born b (sym (ap is_some (at_beside b (other_number b j.birth t))) ∙ left));
    most = refl;
    room =
        let same : node_count after ≡ node_count less =
        ap length (recut_nodes less x file was.0 there (merged_shape place) bounds bounds' intervals intervals' was.2 refl) in
        let low = fewer in
        let room = law.room in
        omega arith;
  }

  pub merge_lawful : IsLawfulGraph after
  merge_lawful = recut_lawful g after law x file bounds bounds' intervals intervals' (shape_is g law i can.kind) merge_recut merge_fits

  -- the interval of a key of this index
  module _ (k : ℕ) where
    abbrev at : ℕ
    at = interval_place bounds k

    abbrev later : ℕ
    later = interval_place bounds' k

    at_low : at ≤ length bounds
    at_low = grind (arith, count_by-le-length)

    holds : HoldsKey bounds at k
    holds = held_in_place g law x (index g law i can.kind) at k at_low refl

    rises : (a b : ℕ) → a ≤ b → b ≤ length bounds → beginning bounds a ≤ beginning bounds b
    rises a b le low = not_below (0 ∷ bounds) a b (its_index g law i can.kind).rising le (omega arith)

    its_bound : beginning bounds (place + 1) ≡ slice_index_or bounds place 0
    its_bound = ap (λ m. slice_index_or (0 ∷ bounds) m 0) (add-one place)

    now : interval_of after x k ≡ slice_index_or intervals' later no_node
    now = ap (λ o. slice_index_or (intervals_in (shape_in o)) (interval_place (bounds_in (shape_in o)) k) no_node) merge_recut.here

    removed : later + cond (nat_le (slice_index_or bounds place 0) k) 1 0 ≡ at
    removed = place_remove bounds place k can.next

    elsewhere : at ≢ place + 1 → same_node (interval_of g x k) j ≡ false
    elsewhere ne = same_node-differ (interval_of g x k) j (λ e. ne (one_place intervals at (place + 1) no_node (its_index g law i can.kind).distinct
        (let count = (its_index g law i can.kind).count in let low = at_low in omega arith) high e))

    abbrev chosen : Bool → NodeId
    chosen b = if b then i else interval_of g x k

    pub merge_key : interval_of after x k ≡ (if same_node (interval_of g x k) j then i else interval_of g x k)
    merge_key =
        ⊎_elim (λ (low : at ≤ place).
        let up = rises (at + 1) (place + 1) (omega arith) (let next = can.next in omega arith) in
        let below = holds.next (let next = can.next in omega arith) in
        let b = its_bound in
        let gt : nat_le (slice_index_or bounds place 0) k ≡ false = grind (arith, nat_tests) in
        let same : later + 0 ≡ at = ap (λ t. later + cond t 1 0) (sym gt) ∙ removed in
        let is : later ≡ at = omega arith in
        now ∙ ap (λ m. slice_index_or intervals' m no_node) is ∙ get_or-remove_below intervals (place + 1) no_node at (omega arith) high
        ∙ sym (ap chosen (elsewhere (omega arith))))
        (λ (more : place < at).
        let up = rises (place + 1) at (omega arith) at_low in
        let begun = holds.begun in
        let b = its_bound in
        let le : nat_le (slice_index_or bounds place 0) k ≡ true = grind (arith, nat_tests) in
        let same : later + 1 ≡ at = ap (λ t. later + cond t 1 0) (sym le) ∙ removed in
        by_cases (at == place + 1)
        (λ t.
        let e = same_number at (place + 1) t in
        let is : later ≡ place = omega arith in
        now ∙ ap (λ m. slice_index_or intervals' m no_node) is ∙ get_or-remove_below intervals (place + 1) no_node place (omega arith) high
        ∙ (at_place g law i can.kind).1
        ∙ sym (ap chosen (same_node-from_equal (interval_of g x k) j (ap (λ m. slice_index_or intervals m no_node) e))))
        (λ t.
        let ne = other_number at (place + 1) t in
        now ∙ get_or-remove_above intervals (place + 1) no_node later (omega arith) high ∙ ap (λ m. slice_index_or intervals m no_node) same
        ∙ sym (ap chosen (elsewhere ne))))
        (le_or_more at place)
      where
        le_or_more : (a b : ℕ) → (a ≤ b) ⊎ (b < a)
        le_or_more a b = search rules

  pub merge_other : (y : NodeId) → y ≢ x → (k : ℕ) → interval_of after y k ≡ interval_of g y k
  merge_other y ne k = by_cases (same_node y j)
      (λ is_j.
      let e = same_node-equal y j is_j in
      none_there after y k (unshaped after y (not_true (is_live after y) (λ h. (lived y h).1 e)))
      ∙ sym (none_there g y k (ap (λ z. intervals_in (shape_of g z)) e ∙ ap (λ o. intervals_in (shape_in o)) j_node)))
      (λ other.
      by_cases (is_live g y)
      (λ live. interval_same g after y k (recut_shape less x file was.0 there (merged_shape place) bounds bounds' intervals intervals' was.2 refl y ne
      ∙ ap shape_in (stays y live (same_node-other y j other))))
      (λ dead. none_there after y k (unshaped after y (not_true (is_live after y) (λ h. no (sym dead ∙ (lived y h).0))))
      ∙ sym (none_there g y k (unshaped g y dead))))
    where
      none_there : (h : Graph) (z : NodeId) (m : ℕ) → intervals_in (shape_of h z) ≡ [] → interval_of h z m ≡ no_node
      none_there h z m e = ap (λ zs. slice_index_or zs (interval_place (bounds_in (shape_of h z)) m) no_node) e

      unshaped : (h : Graph) (z : NodeId) → is_live h z ≡ false → intervals_in (shape_of h z) ≡ []
      unshaped h z dead = cases_of (node_at h z) (λ e. ap (λ o. intervals_in (shape_in o)) e) (λ w e. absurd (no (sym dead ∙ ap is_some e)))
