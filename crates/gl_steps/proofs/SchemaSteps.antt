-- A schema changes under the lock of another: nodes are dropped, and an index is made that its maker holds. What it leaves to a holder t.
use Rattle.gl_steps.proofs.Words.{◌&&◌, ◌<◌, ◌==◌, [], ◌||◌, ◌∙◌, ◌∷◌, ◌≡◌, ◌≢◌, ◌≤◌, ⊎_elim, accepted_once, ap, ap₂, arith, Bool, clash, dropped, EffX, false}
use Rattle.gl_steps.proofs.Words.{freed_among, fun_ext, goes_with, Graph, GraphStep, holds_x_on_all, if◌then◌else◌, is_child, is_file_shape, is_in_use, is_live}
use Rattle.gl_steps.proofs.Words.{is_movable_shape, is_read, is_record_shape, is_some, IsLawful, IsRoute, List, list_all, list_any, live_by, lives, nat_tests}
use Rattle.gl_steps.proofs.Words.{NL, no, no_parents, Node, node_at, NodeId, None, not, Option, or_elim, or_no, parents_in, ReadOn, refl, rules, same_mode}
use Rattle.gl_steps.proofs.Words.{same_node, same_node-equal, same_node-refl, SameGrants, Shape, shape_of, Some, split, State, subst, sym, Told, true, Txn}
use Rattle.gl_steps.proofs.Words.{TxnId, with_grant, with_graph, without_branch, X, ℕ}
use Rattle.gl_modes.proofs.Words.{and_both, both, not_true, or_left}
use Rattle.gl_graph.proofs.Branch.{left_is, left_live, left_was_live, live}
use Rattle.gl_graph.proofs.Distinct.{index_listed}
use Rattle.gl_graph.proofs.OverGraph.{over_above, over_births, over_new, over_record, over_stays}
use Rattle.gl_graph.specs.Graph.{is_record_of}
use Rattle.gl_graph.specs.Over.{IsIndexOver, over_refusal}
use Rattle.gl_graph.specs.Refusals.{has_records}
use Rattle.gl_model.proofs.law.Effects.{all_from}
use Rattle.gl_model.proofs.law.Schema.{alone_under, only_parent, over_locked, over_writes, record_writes}
use Rattle.gl_model.proofs.Words.{all_at, all_filter, indexes_of, interval_of, is_index_of_shape, list_any-append, nodes, parents_of, shape_in}
use Rattle.gl_model.specs.Calls.{holds_child, locked_to_index}
use Rattle.gl_steps.proofs.GraphChanges.{is_new, not_born, quiet_under, x_here, x_on_parents}
use Rattle.gl_steps.proofs.Keeps.{Keeps, keeps_graph, read_lives}
use Rattle.gl_steps.proofs.KeptKinds.{kind_same, over_kinds, over_plain}
use Rattle.gl_steps.proofs.OtherChanges.{with_grant_same}
use Rattle.gl_header.specs.Header.{is_empty}

-- one that waits for a removed node lives on
freed_among_lives : (goes : NodeId → Bool) (age : ℕ) (x : Option Txn) → live_by age (freed_among goes x) ≡ live_by age x
freed_among_lives goes age None = refl
freed_among_lives goes age (Some x) = refl

module _ (s : State) (law : IsLawful s) (t : TxnId) (alive : lives s t ≡ true) (next : State) (law' : IsLawful (accepted_once next)) (told' : Told) where
  abbrev Kept : Type 0
  Kept = Keeps s (accepted_once next) t told' false

  -- another holds X on what is dropped, so t has nothing there and reads nothing there
  module _ (u : ℕ) (x : NodeId) (ne : u ≢ t.slot) (movable : is_movable_shape (shape_of s.graph x) ≡ true) (free : is_in_use s.graph x ≡ false)
      (holds : same_mode (s.held u x) X ≡ true) (is : next ≡ dropped s x) where
    graph : next.graph ≡ without_branch s.graph x
    graph = ap (λ (y : State). y.graph) is

    writes : (q : NodeId) → goes_with s.graph x q ≡ true → EffX s u q
    writes q e =
        or_elim (same_node x q) (is_child s.graph x q) e
        (λ here. subst (EffX s u) (same_node-equal x q here) (x_here s u x holds))
        (λ below.
        let one = only_parent s.graph law.graph x movable free q below in
        x_on_parents s law u q (child_lives (node_at s.graph q) below) (ap (λ ps. not (no_parents ps)) one)
        (ap (list_all (λ p. same_mode (s.held u p) X)) one ∙ ap (λ b. b && true) holds))
      where
        child_lives : (o : Option Node) → list_any (same_node x) (parents_in o) ≡ true → is_some o ≡ true
        child_lives None h = h
        child_lives (Some n) h = refl

    nothing : (q : NodeId) → goes_with s.graph x q ≡ true → s.held t.slot q ≡ NL
    nothing q e = alone_under s law u t.slot ne q (writes q e)

    same_grants : SameGrants s next t.slot
    same_grants q =
        ap (λ (y : State). y.held t.slot q) is
        ∙ split (goes_with s.graph x q) (λ e. ap (λ b. if b then NL else s.held t.slot q) e ∙ sym (nothing q e))
        (λ e. ap (λ b. if b then NL else s.held t.slot q) e)

    stays : (c : NodeId) → goes_with s.graph x c ≡ false → node_at next.graph c ≡ node_at s.graph c
    stays c e =
        ap (λ g. node_at g c) graph
        ∙ split (is_live (without_branch s.graph x) c) (λ on. left_is s.graph x c on)
        (λ off. dead (node_at (without_branch s.graph x) c) off ∙ sym (dead (node_at s.graph c) (not_true (is_live s.graph c) (λ on.
        clash (left_live s.graph x (live s.graph law.graph x movable free) c ∙ ap₂ (λ a b. a && not b) on e) off))))
      where
        dead : (o : Option Node) → is_some o ≡ false → o ≡ None
        dead None h = refl
        dead (Some n) h = absurd (no (sym h))

    off_graph : (c : NodeId) → goes_with s.graph x c ≡ true → is_live next.graph c ≡ false
    off_graph c e =
        ap (λ g. is_live g c) graph ∙ left_live s.graph x (live s.graph law.graph x movable free) c
        ∙ ap (λ b. is_live s.graph c && not b) e ∙ none (is_live s.graph c)
      where
        none : (b : Bool) → (b && false) ≡ false
        none true = refl
        none false = refl

    unread : (c : NodeId) → goes_with s.graph x c ≡ true → ReadOn next.graph (s.held t.slot) c → ⊥
    unread c e r = by r.1 r.2 r.3
      where
        by : (path : List NodeId) → IsRoute next.graph c path r.0 → is_read (s.held t.slot r.0) ≡ true → ⊥
        by [] route read = no (sym (sym read ∙ ap (λ y. is_read (s.held t.slot y)) (sym route) ∙ ap is_read (nothing c e)))
        by (p ∷ path) route read = clash (parent_there (node_at next.graph c) route.0) (off_graph c e)
          where
            parent_there : (o : Option Node) → list_any (same_node p) (parents_in o) ≡ true → is_some o ≡ true
            parent_there None h = h
            parent_there (Some n) h = refl

    step : GraphStep s.graph next.graph (s.held t.slot) (goes_with s.graph x)
    step = record {
      same = stays;
      before = λ c e r. quiet_under s law u t.slot ne c (writes c e) r;
      after = λ c e _ r. unread c e r;
      after_record = λ c e _ r. unread c e r;
    }

    pub drop_keeps : Kept
    drop_keeps =
        keeps_graph s (accepted_once next) t told' (goes_with s.graph x) law law'
        (ap (λ (y : State). live_by t.age (y.txns t.slot)) is ∙ freed_among_lives (goes_with s.graph x) t.age (s.txns t.slot) ∙ alive)
        (let e : next.graph.births ≡ s.graph.births = ap (λ (g : Graph). g.births) graph in omega arith)
        (λ n _ on. left_was_live s.graph x n (sym (ap (λ g. is_live g n) graph) ∙ on))
        (λ n _ on. kind_same (node_at s.graph n) (node_at next.graph n) (ap (λ g. node_at g n) graph
        ∙ left_is s.graph x n (sym (ap (λ g. is_live g n) graph) ∙ on)))
        same_grants step

  -- a new index, which another holds in X, and which gives each record of its file one more parent
  module _ (u : ℕ) (ne : u ≢ t.slot) (ps : List NodeId) (f : NodeId) (bs : List ℕ) (rs : List NodeId) (ks : List ℕ) (n : NodeId)
      (free : over_refusal s.graph ps f bs rs ks ≡ None) (file : is_file_shape (shape_of s.graph f) ≡ true)
      (locked : holds_x_on_all s u (locked_to_index s.graph f rs) ≡ true)
      (unused : ((is_empty rs && has_records s.graph f) || holds_child s u f) ≡ false)
      (made : IsIndexOver s.graph next.graph n ps f bs rs ks) (is : next ≡ with_grant (with_graph s next.graph) u n X) where
    abbrev rekeys : NodeId → Bool
    rekeys c = is_new s.graph c || is_record_of s.graph f c

    new_birth : (c : NodeId) → is_new s.graph c ≡ true → s.graph.births < c.birth
    new_birth c h = grind (arith, nat_tests)

    old_birth : (c : NodeId) → is_new s.graph c ≡ false → c.birth ≤ s.graph.births
    old_birth c h = grind (arith, nat_tests)

    -- one that lived, and is no record of the file, is as it was
    old_same : (c : NodeId) → is_live s.graph c ≡ true → is_record_of s.graph f c ≡ false → node_at next.graph c ≡ node_at s.graph c
    old_same = over_stays s.graph next.graph law.graph n ps f bs rs ks free made

    above : (c : NodeId) → is_live next.graph c ≡ true → is_live s.graph c ≡ false → s.graph.births < c.birth
    above = over_above s.graph next.graph law.graph n ps f bs rs ks free made

    old_dead : (c : NodeId) → c.birth ≤ s.graph.births → is_live s.graph c ≡ false → is_live next.graph c ≡ false
    old_dead c low dead = not_true _ (λ on. let high = above c on dead in absurd (omega arith))

    off : (o : Option Node) → is_some o ≡ false → o ≡ None
    off None h = refl
    off (Some x) h = absurd (no (sym h))

    over_same : (c : NodeId) → rekeys c ≡ false → node_at next.graph c ≡ node_at s.graph c
    over_same c e =
        let parts = or_no (is_new s.graph c) (is_record_of s.graph f c) e in
        split (is_live s.graph c) (λ on. old_same c on parts.1)
        (λ dead. off (node_at next.graph c) (old_dead c (old_birth c parts.0) dead) ∙ sym (off (node_at s.graph c) dead))

    -- the maker holds X on the file and on each of its indexes, the new one too
    holds_new : next.held u n ≡ X
    holds_new = let itself : (u == u) ≡ true = grind (arith, nat_tests) in
        ap (λ (y : State). y.held u n) is ∙ ap₂ (λ a b. if a && b then X else s.held u n) itself (same_node-refl n)

    holds_still : (q : NodeId) → same_mode (s.held u q) X ≡ true → same_mode (next.held u q) X ≡ true
    holds_still q h =
        ap (λ (y : State). same_mode (y.held u q) X) is
        ∙ split ((u == u) && same_node q n) (λ e. ap (λ b. same_mode (if b then X else s.held u q) X) e)
        (λ e. ap (λ b. same_mode (if b then X else s.held u q) X) e ∙ h)

    file_later : node_at next.graph f ≡ node_at s.graph f
    file_later = old_same f (shape_lives (node_at s.graph f) file) (not_true _ (λ rec. no_record (shape_of s.graph f) file (and_both _ _ rec).0))
      where
        shape_lives : (o : Option Node) → is_file_shape (shape_in o) ≡ true → is_some o ≡ true
        shape_lives None h = h
        shape_lives (Some x) h = refl

        no_record : (o : Option Shape) → is_file_shape o ≡ true → is_record_shape o ≡ true → ⊥
        no_record o h k = search rules

    index_held : (i : NodeId) → list_any (same_node i) (indexes_of next.graph f) ≡ true → holds_x_on_all s u (indexes_of s.graph f) ≡ true
        → same_mode (next.held u i) X ≡ true
    index_held i listed all =
        split (is_live s.graph i)
        (λ on.
        let same = old_same i on (not_true _ (λ rec. no (sym (ap (λ o. is_index_of_shape f (shape_in o))
        (over_record s.graph next.graph law.graph n ps f bs rs ks free made i rec).1) ∙ of))) in
        holds_still i (all_at (λ q. same_mode (s.held u q) X) (indexes_of s.graph f) i
        (index_listed s.graph law.graph f i on (sym (ap (λ o. is_index_of_shape f (shape_in o)) same) ∙ of)) all))
        (λ dead.
        ⊎_elim
        (λ e. ap (λ q. same_mode (next.held u q) X) e ∙ ap (λ m. same_mode m X) holds_new)
        (λ it. absurd (no (sym (ap (λ o. is_index_of_shape f (shape_in o)) it) ∙ of)))
        (over_new s.graph next.graph law.graph n ps f bs rs ks free made i (index_lives (node_at next.graph i) of) dead))
      where
        of : is_index_of_shape f (shape_of next.graph i) ≡ true
        of = all_at (λ q. is_index_of_shape f (shape_of next.graph q)) (indexes_of next.graph f) i listed
            (all_filter (λ q. is_index_of_shape f (shape_of next.graph q)) (nodes next.graph))

        index_lives : (o : Option Node) → is_index_of_shape f (shape_in o) ≡ true → is_some o ≡ true
        index_lives None h = h
        index_lives (Some x) h = refl

    -- so it writes each record of the file, before and after
    writes_before : (c : NodeId) → is_record_of s.graph f c ≡ true → EffX s u c
    writes_before = over_writes s law u f rs file locked unused

    record_later : (c : NodeId) → is_record_of s.graph f c ≡ true → is_record_of next.graph f c ≡ true
    record_later c rec =
        let is_now = over_record s.graph next.graph law.graph n ps f bs rs ks free made c rec in
        ap (λ o. is_record_shape (shape_in o) && list_any (same_node f) (parents_in o)) is_now.1
        ∙ list_any-append (same_node f) (parents_of s.graph c) (interval_of next.graph n is_now.0 ∷ [])
        ∙ or_left (list_any (same_node f) (parents_of s.graph c)) _ (and_both _ _ rec).1

    writes_after : (c : NodeId) → is_record_of s.graph f c ≡ true → EffX (accepted_once next) u c
    writes_after c rec =
        let all = and_both _ _ (over_locked s law u f rs file locked unused c rec) in
        record_writes (accepted_once next) law' u f (ap (λ o. is_file_shape (shape_in o)) file_later ∙ file)
        (both _ _ (holds_still f all.0) (all_from (λ q. same_mode (next.held u q) X) (indexes_of next.graph f) (λ i h. index_held i h all.1))) c
        (record_later c rec)

    over_grants : SameGrants s next t.slot
    over_grants q = ap (λ (y : State). y.held t.slot q) is ∙ with_grant_same (with_graph s next.graph) u t.slot n X ne q

    unread_after : (c : NodeId) → is_record_of s.graph f c ≡ true → ReadOn next.graph (s.held t.slot) c → ⊥
    unread_after c rec r =
        quiet_under (accepted_once next) law' u t.slot ne c (writes_after c rec) (subst (λ h. ReadOn next.graph h c) (sym (fun_ext over_grants)) r)

    over_step : GraphStep s.graph next.graph (s.held t.slot) rekeys
    over_step = record {
      same = over_same;
      before = λ c e r. or_elim (is_new s.graph c) (is_record_of s.graph f c) e
          (λ new. not_born s.graph law.graph c (new_birth c new) (read_lives s law t.slot c r.0 r.1 r.2 r.3))
          (λ rec. quiet_under s law u t.slot ne c (writes_before c rec) r);
      after = λ c e live r. or_elim (is_new s.graph c) (is_record_of s.graph f c) e
          (λ new. not_born s.graph law.graph c (new_birth c new) live) (λ rec. unread_after c rec r);
      after_record = λ c e rec r. or_elim (is_new s.graph c) (is_record_of s.graph f c) e
          (λ new. over_plain s.graph next.graph law.graph n ps f bs rs ks free made c
          (not_true _ (λ on. not_born s.graph law.graph c (new_birth c new) on)) rec)
          (λ old. unread_after c old r);
    }

    pub index_by_keeps : Kept
    index_by_keeps =
        keeps_graph s (accepted_once next) t told' rekeys law law' (ap (λ (y : State). live_by t.age (y.txns t.slot)) is ∙ alive)
        (let e = over_births s.graph next.graph law.graph n ps f bs rs ks free made in omega arith)
        (λ c low on. split (is_live s.graph c) (λ h. h) (λ dead. let high = above c on dead in absurd (omega arith)))
        (over_kinds s.graph next.graph law.graph n ps f bs rs ks free made) over_grants over_step
