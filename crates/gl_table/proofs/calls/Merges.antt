-- An interval was merged with the next one: what is left of the table. For the call that merges.
use Rattle.gl_table.proofs.Words.{◌&&◌, ◌+◌, age_of, ◌<◌, ◌==◌, [], ◌^◌, ◌∙◌, ◌∷◌, ◌≡◌, ⊎_elim, addressed, Agrees, and_both, ap, AreSound, arith, Bool}
use Rattle.gl_table.proofs.Words.{children_down, children_few, children_that, clash, cond, count_by, count_cons, count_none, counted_by, departed}
use Rattle.gl_table.proofs.Words.{false, fun_ext, Graph, graph_of, HasNoCycle, held_children, holds, if-false, if-true, if◌then◌else◌, Inside, is_among_waiters}
use Rattle.gl_table.proofs.Words.{is_child, is_live, is_waiting_at, IsLawful, IsOrderly, IsSound, lawful_orderly, Ledger, members, NL, NodeId, nodes}
use Rattle.gl_table.proofs.Words.{nodes_live, None, not, not_true, Option, parents_in, parents_of, refl, same_mode, same_node, same_node-equal, same_node-refl}
use Rattle.gl_table.proofs.Words.{same_node-sym, same_number, shape_of, Some, split, stands_there, State, state_at, state_in, state_of, subst, sym, TellsGone}
use Rattle.gl_table.proofs.Words.{Told, told, told_is, told_to, true, TxnId, View, view_of, X, ℕ}
use Rattle.gl_modes.proofs.Words.{no}
use Rattle.gl_graph.proofs.Around.{index}
use Rattle.gl_graph.proofs.MergeGraph.{can_merge, CanMerge, j_node}
use Rattle.gl_graph.specs.Graph.{first_parent, shape_in}
use Rattle.gl_graph.specs.Shapes.{Interval, is_index_shape, is_interval_shape, Shape}
use Rattle.gl_graph.specs.Splits.{merge, merge_refusal, next_interval}
use Rattle.gl_model.proofs.law.Departures.{departed-no_cycle}
use Rattle.gl_model.proofs.splits.Excluded.{x_is}
use Rattle.gl_model.proofs.splits.Links.{merge_joined}
use Rattle.gl_model.proofs.splits.Merge.{merge_lawful}
use Rattle.gl_model.proofs.splits.Recuts.{IsJoined}
use Rattle.gl_model.proofs.splits.Tellings.{merge_told}
use Rattle.gl_model.specs.Calls.{holds_x_on_all}
use Rattle.gl_model.specs.Splits.{merged_by}
use Rattle.gl_model.specs.declared.answers.Notice.{Notice}
use Rattle.gl_model.specs.declared.answers.Notice.TheVariants as notice
use Rattle.gl_table.specs.inside.Steps.{IsLeftAloneTo}
use Rattle.gl_table.proofs.calls.Records.{held_alone}
use Rattle.gl_table.proofs.calls.Recuts.{recut_both, recut_other}
use Rattle.gl_table.proofs.calls.Stands.{MayStand, stands, with_locks}

-- an interval is no index
interval_no_index : (o : Option Shape) → is_interval_shape o ≡ true → is_index_shape o ≡ false
interval_no_index (Some Interval) h = refl
interval_no_index _ h = absurd (no h)

-- the notice of one that is told something
pub told_if : (name : TxnId) (word : Notice) (b : Bool) → (if b then Some (name, word) else None) ≡ addressed name (if b then Some word else None)
told_if name word true = refl
told_if name word false = refl

module _ (i : Inside) (sound : IsSound i) (t : ℕ) (a : NodeId) (unrefused : merge_refusal (graph_of i.locks.graph) a ≡ None)
    (exclusive : holds_x_on_all (state_of (view_of i)) t (a ∷ next_interval (graph_of i.locks.graph) a ∷ []) ≡ true) where
  abbrev s : State
  s = state_of (view_of i)

  abbrev g : Graph
  g = s.graph

  abbrev b : NodeId
  b = next_interval g a

  abbrev g' : Graph
  g' = merge g a

  can : CanMerge g a
  can = can_merge g a unrefused

  joined : IsJoined g g' a b
  joined = merge_joined g a sound.lawful.graph unrefused

  x_a : same_mode (s.held t a) X ≡ true
  x_a = (and_both (same_mode (s.held t a) X) _ exclusive).0

  x_b : same_mode (s.held t b) X ≡ true
  x_b = (and_both (same_mode (s.held t b) X) true (and_both (same_mode (s.held t a) X) _ exclusive).1).0

  holding : holds (members s b) t ≡ true
  holding = ap (λ m. not (same_mode m NL)) (x_is (s.held t b) x_b)

  b_live : is_live g b ≡ true
  b_live = (sound.lawful.grants_live t b holding).1

  pub merge_left : IsLeftAloneTo s t b
  merge_left = record { live = b_live; holding = holding; alone = held_alone s sound.lawful t b x_b }

  pub merge_differ : same_node a b ≡ false
  merge_differ = not_true (same_node a b) (λ e. clash (ap (is_live g') (sym (same_node-equal a b e)) ∙ joined.recuts.here) joined.gone)

  -- neither interval is a parent of the second
  no_parent : (q : NodeId) → is_interval_shape (shape_of g q) ≡ true → count_by (same_node q) (parents_of g b) ≡ 0
  no_parent q kind =
      let x = first_parent g a in
      let off : same_node q x ≡ false = not_true (same_node q x) (λ e. clash (index g sound.lawful.graph a can.kind)
      (ap (λ n. is_index_shape (shape_of g n)) (sym (same_node-equal q x e)) ∙ interval_no_index (shape_of g q) kind)) in
      ap (count_by (same_node q)) (ap parents_in (j_node g sound.lawful.graph a can)) ∙ count_cons (same_node q) x [] ∙ ap (λ k. cond {A = ℕ} k 1 0 + 0) off

  a_off : count_by (same_node a) (parents_of g b) ≡ 0
  a_off = no_parent a can.kind

  pub merge_apart : count_by (same_node b) (parents_of g b) ≡ 0
  merge_apart = no_parent b (ap (λ o. is_interval_shape (shape_in o)) (j_node g sound.lawful.graph a can))

  -- what is held without the second interval
  abbrev after : State
  after = merged_by s b g'

  abbrev held : ℕ → NodeId → Bool
  held u c = holds (members after c) u

  held_other : (u : ℕ) (c : NodeId) → same_node c b ≡ false → after.held u c ≡ s.held u c
  held_other u c e = ap (λ k. if k then NL else s.held u c) e

  held_there : (u : ℕ) (c : NodeId) → held u c ≡ true → (is_live g c ≡ true) × (is_live g' c ≡ true)
  held_there u c h =
      let off : same_node c b ≡ false = not_true (same_node c b) (λ e. clash h (ap (λ k. not (same_mode (if k then NL else s.held u c) NL)) e)) in
      let live = (sound.lawful.grants_live u c (ap (λ m. not (same_mode m NL)) (sym (held_other u c off)) ∙ h)).1 in
      (live, ⊎_elim (λ e. e) (λ (e : c ≡ b). clash (ap (λ n. same_node n b) e ∙ same_node-refl b) off) (joined.recuts.stays c live))

  -- the holder of the second interval has one held child less of each of its parents
  without_grant : (u : ℕ) (q : NodeId)
      → children_that g (held u) q + (if u == t then count_by (same_node q) (parents_of g b) else 0) ≡ held_children s u q
  without_grant u q = split (u == t)
      (λ e. ap (λ k. children_that g (held u) q + (if k then count_by (same_node q) (parents_of g b) else 0)) e
      ∙ subst (λ v. children_that g (held v) q + count_by (same_node q) (parents_of g b) ≡ held_children s v q) (sym (same_number u t e))
      (children_down g sound.lawful.graph (λ c. holds (members s c) t) (held t) b b_live holding
      (ap (λ k. not (same_mode (if k then NL else s.held t b) NL)) (same_node-refl b)) (λ c k. ap (λ m. not (same_mode m NL)) (held_other t c k)) q))
      (λ e. ap (λ k. children_that g (held u) q + (if k then count_by (same_node q) (parents_of g b) else 0)) e
      ∙ plus (children_that g (held u) q)
      ∙ ap (λ (f : NodeId → Bool). children_that g f q) (fun_ext (λ c. ap (λ m. not (same_mode m NL)) (split (same_node c b)
      (λ k. if-true _ k ∙ sym (ap (s.held u) (same_node-equal c b k) ∙ held_alone s sound.lawful t b x_b u e)) (held_other u c)))))
    where
      plus : (k : ℕ) → k + 0 ≡ k
      plus k = omega arith

  -- of a node that is no parent of the second interval, as many children are held as were
  same_here : (u : ℕ) (q : NodeId) → count_by (same_node q) (parents_of g b) ≡ 0 → children_that g (held u) q ≡ held_children s u q
  same_here u q off =
      let all = without_grant u q in
      let none : (if u == t then count_by (same_node q) (parents_of g b) else 0) ≡ 0 = split (u == t) (λ e. if-true _ e ∙ off) (λ e. if-false _ e) in
      omega arith

  -- the second interval has no children any more
  none_below : (u : ℕ) → children_that g' (held u) b ≡ 0
  none_below u =
      count_none (is_live g') (λ c. is_child g' b c && held u c) (nodes g') (nodes_live g')
      (λ c live. not_true (is_child g' b c && held u c)
      (λ h. clash (joined.recuts.lawful.parents_live c b (and_both (is_child g' b c) (held u c) h).0) joined.gone))

  -- and the first one has those of both
  together : (u : ℕ) → held_children s u a + held_children s u b ≡ children_that g' (held u) a
  together u =
      let all = recut_both g g' sound.lawful.graph b a joined.recuts (held u) (held_there u) in
      let none = none_below u in
      let ha = same_here u a a_off in
      let hb = same_here u b merge_apart in
      omega arith

  pub merge_few : (u : ℕ) → held_children s u a + held_children s u b < 2 ^ 32
  merge_few u = let all = together u in let few = children_few g' joined.recuts.lawful (held u) a in omega arith

  pub merge_counts : (ls : ℕ → NodeId → ℕ)
      → ((u : ℕ) (q : NodeId) → ls u q + (if u == t then count_by (same_node q) (parents_of g b) else 0) + (if same_node q b then held_children s u b else 0)
      ≡ held_children s u q + (if same_node q a then held_children s u b else 0))
      → (u : ℕ) (q : NodeId) → ls u q ≡ children_that g' (held u) q
  merge_counts ls counts u q = split (same_node q b)
      (λ e. subst (λ n. ls u n ≡ children_that g' (held u) n) (sym (same_node-equal q b e)) at_b)
      (λ nb. split (same_node q a)
      (λ e. subst (λ n. ls u n ≡ children_that g' (held u) n) (sym (same_node-equal q a e)) at_a)
      (λ na.
      let c = counts u q in
      let off : (if same_node q b then held_children s u b else 0) ≡ 0 = if-false _ nb in
      let off' : (if same_node q a then held_children s u b else 0) ≡ 0 = if-false _ na in
      let less = without_grant u q in
      let same = recut_other g g' sound.lawful.graph b a joined.recuts (held u) (held_there u) q nb na in
      omega arith))
    where
      gone : (q : NodeId) → count_by (same_node q) (parents_of g b) ≡ 0 → (if u == t then count_by (same_node q) (parents_of g b) else 0) ≡ 0
      gone q off = split (u == t) (λ e. if-true _ e ∙ off) (λ e. if-false _ e)

      at_b : ls u b ≡ children_that g' (held u) b
      at_b =
          let c = counts u b in
          let p = gone b merge_apart in
          let on : (if same_node b b then held_children s u b else 0) ≡ held_children s u b = if-true _ (same_node-refl b) in
          let off : (if same_node b a then held_children s u b else 0) ≡ 0 = if-false _ (same_node-sym b a ∙ merge_differ) in
          let none = none_below u in
          omega arith

      at_a : ls u a ≡ children_that g' (held u) a
      at_a =
          let c = counts u a in
          let p = gone a a_off in
          let off : (if same_node a b then held_children s u b else 0) ≡ 0 = if-false _ merge_differ in
          let on : (if same_node a a then held_children s u b else 0) ≡ held_children s u b = if-true _ (same_node-refl a) in
          let all = together u in
          omega arith

  -- the ledger and then the graph were called
  module _ (v : View) (made : graph_of v ≡ g') (ledger : Ledger)
      (is : state_in i.locks.graph ledger ≡ departed (state_at i.locks) (λ q. same_node q b) (graph_of i.locks.graph)) where
    on_locks : state_in v ledger ≡ merged_by (state_at i.locks) b g'
    on_locks = ap {A = State} (λ x. record x { graph = graph_of v }) is ∙ ap (merged_by (state_at i.locks) b) made

    pub state_merged : with_locks i (state_in v ledger) ≡ merged_by s b g'
    state_merged = ap {A = State} (with_locks i) on_locks

    pub stands_merged : AreSound ledger → ((u : ℕ) → Agrees (state_in i.locks.graph ledger) ledger.lists.items u)
        → ((u : ℕ) (q : NodeId) → counted_by ledger.lists.items u q + (if u == t then count_by (same_node q) (parents_of g b) else 0)
        + (if same_node q b then held_children s u b else 0) ≡ held_children s u q + (if same_node q a then held_children s u b else 0))
        → MayStand i v ledger
    stands_merged fit agree counts = stands i v ledger (record {
      lawful = subst IsLawful (sym state_merged) (merge_lawful s sound.lawful t a b g' x_a x_b joined);
      no_cycle = λ at. subst HasNoCycle (sym state_merged) (departed-no_cycle s (λ q. same_node q b) g' (sound.no_cycle at));
    }) (record {
      sound = fit;
      agree = λ u. over u (agree u);
      count = λ u. λ p. merge_counts (counted_by ledger.lists.items) counts u p ∙ ap (λ (x : State). held_children x u p) (sym on_locks);
    })
      where
        over : (u : ℕ) → Agrees (state_in i.locks.graph ledger) ledger.lists.items u → Agrees (state_in v ledger) ledger.lists.items u
        over u x = record { modes = x.modes; listed = x.listed; room = x.room }

    o : IsOrderly s
    o = lawful_orderly s sound.lawful

    waits_same : (u : ℕ) → is_among_waiters u (s.queue b) ≡ is_waiting_at s u b
    waits_same u = split (is_waiting_at s u b) (λ w. stands_there s o u b w ∙ sym w)
        (λ k. not_true (is_among_waiters u (s.queue b)) (λ h. clash (o.waits_are u b h) k) ∙ sym k)

    pub told_merged : (list : Told) → TellsGone s b [] list → list ≡ told s (with_locks i (state_in v ledger))
    told_merged list tells =
        told_is s (with_locks i (state_in v ledger)) list sound.lawful i.locks.sound.few tells.by_slot (λ u.
        tells.notices u
        ∙ ap (λ k. if k then Some (record { slot = u; age = age_of s u }, notice.Gone) else None) (waits_same u)
        ∙ told_if (record { slot = u; age = age_of s u }) notice.Gone (is_waiting_at s u b)
        ∙ ap (addressed (record { slot = u; age = age_of s u })) (sym (merge_told s a b g' joined u))
        ∙ ap (λ x. told_to s x u) (sym state_merged))
