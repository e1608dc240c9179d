-- A schema changes under the lock of a transaction: nodes are dropped, and an index is made that its maker holds. The law of a state is kept.
use Rattle.gl_model.proofs.Words.{◌&&◌, ◌+◌, [], ◌||◌, ◌∙◌, ◌∷◌, ◌≡◌, ◌≢◌, ⊎_elim, Active, all_filter, and_both, ap, ap₂, are_compatible, Bool, born_nodes}
use Rattle.gl_model.proofs.Words.{both, clash, count_by, eff_x, EffX, false, File, first_not_ix, first_parent, fits-from_all, front, fun_ext, Graph, HasNoCycle}
use Rattle.gl_model.proofs.Words.{HasShape, holds, holds_x_on_all, Index, indexes_of, Inner, intends_over, Interval, interval_is, interval_nodes, interval_of}
use Rattle.gl_model.proofs.Words.{intervals_of, IS, is_among_waiters, is_at_least, is_child, is_empty, is_file_shape, is_index_of_shape, is_live}
use Rattle.gl_model.proofs.Words.{is_movable_shape, is_record_shape, is_some, IsLawful, IsLawfulGraph, keys_in, List, list_all, list_any, listed, members, Mode}
use Rattle.gl_model.proofs.Words.{new_index, NL, NL-compatible, no, no_parents, Node, node_at, node_count, NodeId, nodes, None, not, not-true, not_true}
use Rattle.gl_model.proofs.Words.{old_same, Option, or_elim, or_left, or_no, or_right, parents_in, parents_of, Rec, record_parents, refl, rules, same_mode}
use Rattle.gl_model.proofs.Words.{same_node, same_node-equal, Shape, shape_in, shape_of, Some, some_at, split, State, status_of, sym, true, Waiter, with_grant}
use Rattle.gl_model.proofs.Words.{with_graph, X, ℕ}
use Rattle.gl_graph.proofs.Words.{cases_eq}
use Rattle.gl_graph.proofs.Branch.{children_are, left_lawful, left_live, live, stays_left}
use Rattle.gl_graph.proofs.Look.{child_live}
use Rattle.gl_graph.proofs.OverGraph.{nodes_after, over_dead, over_index, over_lawful, over_stays}
use Rattle.gl_graph.proofs.RecordParents.{its_parents, record_of_file}
use Rattle.gl_graph.specs.Changes.{without_branch}
use Rattle.gl_graph.specs.Graph.{is_record_of}
use Rattle.gl_graph.specs.Over.{IsIndexOver, over_refusal}
use Rattle.gl_graph.specs.Refusals.{has_records, is_in_use}
use Rattle.gl_graph.specs.Shapes.{is_interval_shape}
use Rattle.gl_model.specs.Calls.{dropped, goes_with, held_children, holds_child, locked_to_index}
use Rattle.gl_model.proofs.law.Departures.{departed-no_cycle, departed_lawful, GoAway}
use Rattle.gl_model.proofs.law.Effects.{eff_x_any, held_is, none_held}
use Rattle.gl_model.proofs.law.Keeps.{nl_is, with_grant-lawful}
use Rattle.gl_model.proofs.law.Records.{born-children, no_queue, nobody_holds, regraphed-lawful, StandsIn}
use Rattle.gl_model.proofs.law.Tests.{all_ix}
use Rattle.gl_model.proofs.queues.Waiters.{if-true, no_cons}

-- what is removed with a node that is not in use is removed alone
module _ (g : Graph) (law : IsLawfulGraph g) (n : NodeId) (movable : is_movable_shape (shape_of g n) ≡ true) (free : is_in_use g n ≡ false) where
  pub branch_goes : GoAway g (goes_with g n) (without_branch g n)
  branch_goes = record {
    lawful = left_lawful g law n movable free;
    stays = stays;
    apart = λ q p h e c.
        let up = (left_lawful g law n movable free).parents_live q p (ap (λ o. list_any (same_node p) (parents_in o)) (stays q h e) ∙ c) in
        not-true _ (and_both _ _ (sym (left_live g n (live g law n movable free) p) ∙ up)).1;
  }
    where
      stays : (q : NodeId) → is_live g q ≡ true → goes_with g n q ≡ false → node_at (without_branch g n) q ≡ node_at g q
      stays q h e = let both = or_no _ _ e in stays_left g n (live g law n movable free) q h both.0 both.1

-- the one parent of what is removed with a node
module _ (g : Graph) (law : IsLawfulGraph g) (n : NodeId) (movable : is_movable_shape (shape_of g n) ≡ true) (free : is_in_use g n ≡ false) where
  pub only_parent : (q : NodeId) → is_child g n q ≡ true → parents_of g q ≡ n ∷ []
  only_parent q c = by (node_at g q) refl (children_are g law n movable free q c).1 c
    where
      shaped : (sh : Shape) (ps : List NodeId) → HasShape g q sh ps → is_interval_shape (Some sh) ≡ true → list_any (same_node n) ps ≡ true → ps ≡ n ∷ []
      shaped Inner ps h i l = absurd (no i)
      shaped (File adopted) ps h i l = absurd (no i)
      shaped (Index f bs is) ps h i l = absurd (no i)
      shaped Interval ps h i l =
          or_elim (same_node n h.0) false (sym (ap (list_any (same_node n)) h.1) ∙ l)
          (λ here. h.1 ∙ ap (λ p. p ∷ []) (sym (same_node-equal n h.0 here))) (λ none. absurd (no none))
      shaped (Rec keys) ps h i l = absurd (no i)

      by : (o : Option Node) → node_at g q ≡ o → is_interval_shape (shape_in o) ≡ true → list_any (same_node n) (parents_in o) ≡ true
          → parents_in o ≡ n ∷ []
      by None e i l = absurd (no l)
      by (Some x) e i l = shaped x.shape x.parents (law.well_formed q x e) i l

pub dropped_lawful : (s : State) → IsLawful s → (n : NodeId) → is_movable_shape (shape_of s.graph n) ≡ true → is_in_use s.graph n ≡ false
    → IsLawful (dropped s n)
dropped_lawful s law n movable free =
    departed_lawful s law (goes_with s.graph n) (without_branch s.graph n) (branch_goes s.graph law.graph n movable free)

pub dropped-no_cycle : (s : State) (n : NodeId) → HasNoCycle s → HasNoCycle (dropped s n)
dropped-no_cycle s n none = departed-no_cycle s (goes_with s.graph n) (without_branch s.graph n) none

-- An index of a file is made, held by a transaction that holds X on the file and, if it has records, on each of its indexes.

-- if nobody holds a node, nobody waits for it
pub unheld_unawaited : (s : State) → IsLawful s → (n : NodeId) → ((u : ℕ) → s.held u n ≡ NL) → s.queue n ≡ []
unheld_unawaited s law n none = by (s.queue n) (law.front_waits n)
  where
    by : (ws : List Waiter) → front s.most (members s n) ws ≡ [] → ws ≡ []
    by [] e = refl
    by (w ∷ ws) e =
        no_cons (sym (if-true _ (fits-from_all s.most (members s n) w.0 w.1 (λ u other. ap (are_compatible w.1) (none u) ∙ NL-compatible w.1))) ∙ e)

-- a mode that is held is IS or greater
at_least_is : (m : Mode) → not (same_mode m NL) ≡ true → is_at_least m IS ≡ true
at_least_is m h = search rules

-- under an effective X of a transaction no other holds anything
pub alone_under : (s : State) → IsLawful s → (t u : ℕ) → t ≢ u → (n : NodeId) → EffX s t n → s.held u n ≡ NL
alone_under s law t u ne n x =
    nl_is (s.held u n) (not_true _ (λ h. none_held s.graph (s.held t) (s.held u) (λ q. law.compatible t u q ne)
    (λ q k. law.grants_intend t q (held_is (s.held t q) k)) (λ q k. law.grants_intend u q (held_is (s.held u q) k))
    (node_count s.graph) n x (at_least_is (s.held u n) h)))

-- under X on a file and on each of its indexes, a transaction writes each record of the file
module _ (s : State) (law : IsLawful s) (t : ℕ) (f : NodeId) (file : is_file_shape (shape_of s.graph f) ≡ true)
    (locked : holds_x_on_all s t (f ∷ indexes_of s.graph f) ≡ true) where
  interval_writes : (i : NodeId) (k : ℕ) → is_index_of_shape f (shape_of s.graph i) ≡ true → same_mode (s.held t i) X ≡ true
      → eff_x 1 s.graph (s.held t) (interval_of s.graph i k) ≡ true
  interval_writes i k of x =
      or_right _ _ (ap (λ o. not (no_parents (parents_in o)) && list_all (eff_x 0 s.graph (s.held t)) (parents_in o))
      (interval_is s.graph law.graph f i k of) ∙ ap (λ b. b && true) x)

  intervals_write : (is : List NodeId) (ks : List ℕ) → list_all (λ i. is_index_of_shape f (shape_of s.graph i)) is ≡ true → holds_x_on_all s t is ≡ true
      → list_all (eff_x 1 s.graph (s.held t)) (intervals_of s.graph is ks) ≡ true
  intervals_write [] ks of x = refl
  intervals_write (i ∷ is) [] of x = refl
  intervals_write (i ∷ is) (k ∷ ks) of x =
      let a = and_both _ _ of in
      let b = and_both _ _ x in
      both _ _ (interval_writes i k a.0 b.0) (intervals_write is ks a.1 b.1)

  pub record_writes : (r : NodeId) → is_record_of s.graph f r ≡ true → EffX s t r
  record_writes r rec =
      let of = and_both _ _ rec in
      let b = and_both _ _ locked in
      let its : f ≡ first_parent s.graph r = same_node-equal f _ (sym (record_of_file s.graph law.graph r of.0 f file) ∙ rec) in
      let parents = its_parents s.graph law.graph r of.0 ∙ ap (λ h. record_parents s.graph h (keys_in (shape_of s.graph r))) (sym its) in
      eff_x_any s law t 2 r (child_live s.graph r f of.1)
      (or_right _ _ (ap (λ ps. not (no_parents ps) && list_all (eff_x 1 s.graph (s.held t)) ps) parents
      ∙ both _ _ (or_left _ _ b.0) (intervals_write (indexes_of s.graph f) (keys_in (shape_of s.graph r))
      (all_filter (λ i. is_index_of_shape f (shape_of s.graph i)) (nodes s.graph)) b.1)))

-- what the tests of such an index leave of the records of its file
module _ (s : State) (law : IsLawful s) (t : ℕ) (f : NodeId) (rs : List NodeId) (file : is_file_shape (shape_of s.graph f) ≡ true)
    (locked : holds_x_on_all s t (locked_to_index s.graph f rs) ≡ true)
    (unused : ((is_empty rs && has_records s.graph f) || holds_child s t f) ≡ false) where
  -- if there is one, its maker holds X on each index of the file too
  pub over_locked : (r : NodeId) → is_record_of s.graph f r ≡ true → holds_x_on_all s t (f ∷ indexes_of s.graph f) ≡ true
  over_locked r rec = by rs locked (or_no _ _ unused).0
    where
      by : (qs : List NodeId) → holds_x_on_all s t (locked_to_index s.graph f qs) ≡ true → (is_empty qs && has_records s.graph f) ≡ false
          → holds_x_on_all s t (f ∷ indexes_of s.graph f) ≡ true
      by [] l none =
          let there = listed s.graph law.graph r (child_live s.graph r f (and_both _ _ rec).1) in
          clash (some_at (is_record_of s.graph f) (nodes s.graph) r there rec) none
      by (q ∷ qs) l none = l

  -- so it writes them
  pub over_writes : (r : NodeId) → is_record_of s.graph f r ≡ true → EffX s t r
  over_writes r rec = record_writes s law t f file (over_locked r rec) r rec

  -- nobody holds one
  pub over_unheld : (u : ℕ) (r : NodeId) → is_record_of s.graph f r ≡ true → s.held u r ≡ NL
  over_unheld u r rec =
      let child = (and_both _ _ rec).1 in
      let none = (or_no _ _ unused).1 in
      ⊎_elim
      (λ (e : t ≡ u). nl_is (s.held u r) (not_true _ (λ h.
      clash (some_at (λ c. is_child s.graph f c && holds (members s c) t) (nodes s.graph) r (listed s.graph law.graph r (child_live s.graph r f child))
      (both _ _ child (ap (λ v. holds (members s r) v) e ∙ h))) none)))
      (λ ne. alone_under s law t u ne r (over_writes r rec))
      (cases_eq t u)

-- an index of a file is made, over records that nobody holds
module _ (s : State) (law : IsLawful s) (ps : List NodeId) (f : NodeId) (bs : List ℕ) (rs : List NodeId) (ks : List ℕ)
    (free : over_refusal s.graph ps f bs rs ks ≡ None) (g' : Graph) (n : NodeId) (made : IsIndexOver s.graph g' n ps f bs rs ks) where
  not_old : is_live s.graph n ≡ true → ⊥
  not_old h = clash h (over_dead s.graph g' law.graph n ps f bs rs ks free made)

  pub index-unheld : (u : ℕ) → s.held u n ≡ NL
  index-unheld u = nobody_holds s law u n not_old

  pub index-unawaited : s.queue n ≡ []
  index-unawaited = no_queue (s.queue n) (λ u h. not_old (law.waits_live u n h))

  pub index-live : is_live g' n ≡ true
  index-live = ap is_some (over_index s.graph g' law.graph n ps f bs rs ks free made)

  module _ (unheld : (u : ℕ) (r : NodeId) → is_record_of s.graph f r ≡ true → s.held u r ≡ NL) where
    stands : (q : NodeId) → is_live s.graph q ≡ true → (is_record_of s.graph f q ≡ true → ⊥) → StandsIn s.graph g' q
    stands q live other =
        let same = over_stays s.graph g' law.graph n ps f bs rs ks free made q live (not_true _ other) in
        record { live = ap is_some same ∙ live; record_is = ap (λ o. is_record_shape (shape_in o)) same; parents = ap parents_in same }

    pub over-lawful : IsLawful (with_graph s g')
    over-lawful =
        regraphed-lawful s law g' (over_lawful s.graph g' law.graph n ps f bs rs ks free made)
        (λ u q h. stands q (law.grants_live u q h).1 (λ rec. clash h (ap (λ m. not (same_mode m NL)) (unheld u q rec))))
        (λ u q h. stands q (law.waits_live u q h)
        (λ rec. clash h (ap (is_among_waiters u) (unheld_unawaited s law q (λ v. unheld v q rec)))))

    pub indexed_lawful : (t : ℕ) → status_of s t ≡ Some Active → first_not_ix (s.held t) ps ≡ None → IsLawful (with_grant (with_graph s g') t n X)
    indexed_lawful t active rule =
        let there = over_index s.graph g' law.graph n ps f bs rs ks free made in
        with_grant-lawful (with_graph s g') over-lawful t n X active index-live (λ is. refl)
        (ap (λ o. intends_over (s.held t) (parents_in o) X) there ∙ all_ix (s.held t) ps rule) (ap (is_at_least X) (index-unheld t))
        (fits-from_all s.most (members s n) t X (λ u other. ap (are_compatible X) (index-unheld u)))

    -- the index and its intervals, and the graph before the records have their keys
    abbrev index_nodes : List Node
    index_nodes =
        let id : NodeId = record { key = n.key; birth = s.graph.births + 1 } in
        new_index id ps f bs made.index.interval_keys ∷ interval_nodes id made.index.interval_keys

    abbrev mid : Graph
    mid = born_nodes s.graph index_nodes

    holds_beside : (u : ℕ) (p c : NodeId) → (is_child g' p c && holds (members s c) u) ≡ (is_child mid p c && holds (members s c) u)
    holds_beside u p c =
        split (holds (members s c) u)
        (λ on.
        let live = (law.grants_live u c on).1 in
        let other = not_true _ (λ rec. clash on (ap (λ m. not (same_mode m NL)) (unheld u c rec))) in
        ap (λ o. list_any (same_node p) (parents_in o) && holds (members s c) u)
        (over_stays s.graph g' law.graph n ps f bs rs ks free made c live other
        ∙ sym (old_same s.graph law.graph index_nodes c live)))
        (λ off. none (is_child g' p c) (holds (members s c) u) off ∙ sym (none (is_child mid p c) (holds (members s c) u) off))
      where
        none : (b h : Bool) → h ≡ false → (b && h) ≡ false
        none true h e = e
        none false h e = refl

    -- as many children of each node are held as before
    pub over-counts : (u : ℕ) (p : NodeId) → held_children (with_graph s g') u p ≡ held_children s u p
    over-counts u p =
        ap₂ count_by (fun_ext (holds_beside u p)) (ap nodes made.after ∙ nodes_after made.born n rs ks ∙ ap nodes made.index.after)
        ∙ born-children s.graph law.graph index_nodes
        (λ c. holds (members s c) u) (λ c h. (law.grants_live u c h).1) p
